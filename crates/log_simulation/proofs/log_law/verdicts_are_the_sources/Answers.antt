use Rattle.log_simulation.proofs.Verdicts.{verdict_so}
use Rattle.log_simulation.proofs.log_law.verdicts_are_the_sources.Goals as goal

pub returns : goal.returns
returns c = verdict_so
