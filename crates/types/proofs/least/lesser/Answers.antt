use Rattle.std.proofs.Common.{subst}
use Rattle.types.specs.Faults.{IsLeastOf}
use Rattle.types.proofs.Leasts.{least_stays, least_taken}
use Rattle.types.proofs.least.lesser.Goals as goal

pub returns-in-Some : goal.returns-in-Some
returns-in-Some c es h = least_stays es c.in-Some.first c.args.fault (subst (IsLeastOf es) c.in-Some.is h)
    (c.comes_no_later.ensures.yes c.if-comes_no_later.true)

pub returns-in_default : goal.returns-in_default
returns-in_default c es h = least_taken es c.in-Some.first c.args.fault (subst (IsLeastOf es) c.in-Some.is h)
    (c.comes_no_later.ensures.no c.if-comes_no_later.false)
