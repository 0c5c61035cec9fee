use Rattle.std.proofs.Common.{◌≡◌, ◌++◌, drop}
use Rattle.backend.proofs.PieceMarks.{marks}
use Rattle.backend.proofs.marking.append_marks.Given as goal

-- what is appended, and what is left, is all
abbrev pub invariant-loop-marked : goal.invariant-loop-marked
invariant-loop-marked l = l.marks.items ++ marks (drop l.marked-index l.code) ≡ l.fn.marks.items ++ marks l.code
