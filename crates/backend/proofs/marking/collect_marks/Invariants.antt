use Rattle.std.proofs.Common.{◌≡◌, ◌++◌, drop, map}
use Rattle.codegen.specs.Generated.{piece_of}
use Rattle.backend.proofs.PieceMarks.{marks_from}
use Rattle.backend.proofs.marking.collect_marks.Given as goal

-- what is appended, and what is left, is all
abbrev pub invariant-loop-piece : goal.invariant-loop-piece
invariant-loop-piece l =
    l.marks.items ++ marks_from (map piece_of (drop l.piece-index l.pieces))
    ≡ marks_from (map piece_of l.pieces)
