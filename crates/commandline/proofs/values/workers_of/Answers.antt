use Rattle.std.proofs.Common.{refl}
use Rattle.commandline.proofs.values.workers_of.Goals as goal

pub returns-in_err-workers-clause-none : goal.returns-in_err-workers-clause-none
returns-in_err-workers-clause-none c = λ _ n h. c.in_err-workers.ensures.none refl n h.0
