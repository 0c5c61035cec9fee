use Rattle.std.proofs.Common.{sym}
use Rattle.machine.specs.Views.{concrete}
use Rattle.schedules.proofs.Aborting.{aborted_as}
use Rattle.schedules.proofs.failing.has_aborted.Goals as goal

pub returns-in-Stuck-clause-other : goal.returns-in-Stuck-clause-other
returns-in-Stuck-clause-other c = λ _ h. aborted_as (concrete c.args.machine.now) _ c.args.failure (sym c.in-Stuck.is) h

pub returns-in-Aborted-clause-aborted : goal.returns-in-Aborted-clause-aborted
returns-in-Aborted-clause-aborted c = λ e.
    aborted_as (concrete c.args.machine.now) c.args.failure _ c.in-Aborted.is (c.has_faulted.ensures.faulted e)

pub returns-in-Aborted-clause-other : goal.returns-in-Aborted-clause-other
returns-in-Aborted-clause-other c = λ e h.
    c.has_faulted.ensures.other e
    (aborted_as (concrete c.args.machine.now) _ c.args.failure (sym c.in-Aborted.is) h)
