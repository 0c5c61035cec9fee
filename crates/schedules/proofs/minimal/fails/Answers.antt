use Rattle.std.proofs.Common.{subst}
use Rattle.runner.specs.Schedules.{FailsAt}
use Rattle.runner.specs.declared.schedule.ScheduleFault.{ScheduleFault}
use Rattle.runner.specs.declared.schedule.ScheduleFault.TheVariants.{BadEntry, Broken}
use Rattle.schedules.proofs.Determined.{fails_once, not_followed}
use Rattle.schedules.proofs.minimal.fails.Goals as goal

pub returns-in-Ok : goal.returns-in-Ok
returns-in-Ok c = λ not on.
    c.fails_by.ensures.other not
    (fails_once c.args.image.now c.args.schedule.now c.in-Ok.report on.report c.args.failure c.in-Ok.ensures.ok on.followed
    on.fails)

pub returns-in-Err-BadEntry : goal.returns-in-Err-BadEntry
returns-in-Err-BadEntry c = λ _ on.
    not_followed c.args.image.now c.args.schedule.now (BadEntry c.in-Err-BadEntry.field-0-0) on.report
    (subst (λ (f : ScheduleFault). FailsAt c.args.image.now c.args.schedule.now f) c.in-Err-BadEntry.field-0-is
    c.in-Err-BadEntry.ensures.err) (λ memory. memory) on.followed

pub returns-in-Err-Broken : goal.returns-in-Err-Broken
returns-in-Err-Broken c = λ _ on.
    not_followed c.args.image.now c.args.schedule.now (Broken c.in-Err-Broken.field-0-0) on.report
    (subst (λ (f : ScheduleFault). FailsAt c.args.image.now c.args.schedule.now f) c.in-Err-Broken.field-0-is
    c.in-Err-Broken.ensures.err) (λ memory. memory) on.followed
