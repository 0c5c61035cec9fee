use Rattle.piece_machine.specs.PieceViews.{pieces}
use Rattle.image_search.proofs.Slept.{none_sleep}
use Rattle.image_search.proofs.sleeping.sleepers_of.Goals as goal

pub add_sleepers-requires-clause-sleep : goal.add_sleepers-requires-clause-sleep
add_sleepers-requires-clause-sleep c = λ same.
    none_sleep c.args.image.now (pieces c.args.report.now.last) c.new-threads.result.items c.new-threads.ensures.items
