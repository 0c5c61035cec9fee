use Rattle.std.proofs.Common.{subst, sym}
use Rattle.machine.specs.Views.{View, concrete}
use Rattle.schedules.specs.Failing.{HasAborted}
use Rattle.schedules.proofs.Aborting.{aborted_fails, aborted_only, fails_as}
use Rattle.schedules.proofs.failing.fails_by.Goals as goal

pub returns-in-Stuck-clause-fails : goal.returns-in-Stuck-clause-fails
returns-in-Stuck-clause-fails c = λ e. fails_as c.args.report.now c.args.failure _ c.in-Stuck.is (c.is_stuck.ensures.stuck e)

pub returns-in-Stuck-clause-other : goal.returns-in-Stuck-clause-other
returns-in-Stuck-clause-other c = λ e h.
    c.is_stuck.ensures.other e (fails_as c.args.report.now _ c.args.failure (sym c.in-Stuck.is) h)

pub returns-in-Aborted-clause-fails : goal.returns-in-Aborted-clause-fails
returns-in-Aborted-clause-fails c = λ e.
    aborted_fails c.args.report.now c.args.failure
    (subst (λ (v : View). HasAborted (concrete v) c.args.failure) c.machine.ensures.shows (c.has_aborted.ensures.aborted e))

pub returns-in-Aborted-clause-other : goal.returns-in-Aborted-clause-other
returns-in-Aborted-clause-other c = λ e h.
    c.has_aborted.ensures.other e
    (subst (λ (v : View). HasAborted (concrete v) c.args.failure) (sym c.machine.ensures.shows)
    (aborted_only c.args.report.now c.args.failure _ _ c.in-Aborted.is h))
