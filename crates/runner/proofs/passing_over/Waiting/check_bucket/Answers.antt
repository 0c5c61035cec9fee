use Rattle.runner.proofs.Noting.{held_some, inside_here}
use Rattle.runner.proofs.passing_over.Waiting.check_bucket.Goals as goal

pub holder-requires : goal.holder-requires
holder-requires c =
    inside_here c.args.machine.now c.machine.result.now c.args.bucket c.machine.ensures.shows c.requires.buckets
    c.requires.bucket

pub returns-else-is_none-clause-held : goal.returns-else-is_none-clause-held
returns-else-is_none-clause-held c = λ shut.
    held_some c.args.machine.now c.machine.result.now c.args.bucket c.holder.result c.is_none.result c.machine.ensures.shows
    c.holder.ensures c.is_none.ensures c.if-is_none.false
