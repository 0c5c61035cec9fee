use Rattle.std.proofs.Common.{subst, sym}
use Rattle.runner.specs.declared.schedule.ScheduleFault.{ScheduleFault}
use Rattle.answers.specs.Failures.{OfSchedule}
use Rattle.answers.proofs.shrinking.told_entry.Goals as goal

pub returns-in-BadEntry : goal.returns-in-BadEntry
returns-in-BadEntry c =
    subst (λ (f : ScheduleFault). OfSchedule f c.told_turn.result) (sym c.in-BadEntry.is) c.told_turn.ensures
