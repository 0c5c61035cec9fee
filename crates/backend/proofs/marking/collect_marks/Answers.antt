use Rattle.std.proofs.Common.{ap, ◌∙◌, map}
use Rattle.codegen.specs.Generated.{piece_of}
use Rattle.backend.proofs.PieceMarks.{all_appended, marks_from, program_marks}
use Rattle.backend.proofs.marking.collect_marks.Goals as goal

pub returns : goal.returns
returns c p made =
    let pieces = c.args.pieces.now in
    all_appended c.loop-piece.marks.items (marks_from (map piece_of pieces)) c.loop-piece.piece-index pieces
    c.loop-piece-test.false c.loop-piece.invariant
    ∙ ap marks_from made
    ∙ program_marks p
