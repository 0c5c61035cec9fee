use Rattle.std.proofs.Common.{refl, sym, subst}
use Rattle.machine.specs.Views.{View, concrete}
use Rattle.schedules.specs.Failing.{HasFaulted}
use Rattle.schedules.proofs.Aborting.{never}
use Rattle.schedules.proofs.failing.failure_of.Goals as goal

pub returns-in-Some-clause-some : goal.returns-in-Some-clause-some
returns-in-Some-clause-some c =
    subst (λ (v : View). HasFaulted (concrete v) c.in-Some.thread c.in-Some.fault) c.machine-machine.ensures.shows c.in-Some.ensures

pub returns-in-None-clause-none : goal.returns-in-None-clause-none
returns-in-None-clause-none c = λ _.
    never c.args.report.now (c.is_stuck.ensures.other c.if-is_stuck.false)
    (λ t fault h. c.in-None.ensures.none refl t fault
    (subst (λ (v : View). HasFaulted (concrete v) t fault) (sym c.machine-machine.ensures.shows) h))
