use Rattle.std.proofs.Common.{refl}
use Rattle.commandline.proofs.values.count_of.Goals as goal

pub returns-in_err-number-clause-none : goal.returns-in_err-number-clause-none
returns-in_err-number-clause-none c = λ _ n h. c.in_err-number.ensures.none refl n h.0
