use Rattle.compiler.proofs.Readings.{only_memory}
use Rattle.compiler.proofs.compiling.compile_checked_as.Goals as goal

pub returns-clause-only : goal.returns-clause-only
returns-clause-only c =
    only_memory c.args.version c.args.text.now (c.text_laws.ensures.not_both_as c.args.version c.args.text.now) _ _
    c.read_lowered.result c.read_lowered.ensures
