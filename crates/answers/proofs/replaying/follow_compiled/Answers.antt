use Rattle.std.proofs.Common.{subst}
use Rattle.runner.specs.Schedules.{FailsAt}
use Rattle.runner.specs.declared.schedule.ScheduleFault.{ScheduleFault}
use Rattle.answers.proofs.Replays.{replay_sound}
use Rattle.answers.proofs.replaying.follow_compiled.Goals as goal

pub unreachable-requires : goal.unreachable-requires
unreachable-requires c =
    replay_sound c.requires.0 c.requires.1 c.args.image.now c.args.schedule.now c.in-Err-Broken.field-0-0 c.requires.2
    (subst (λ (f : ScheduleFault). FailsAt c.args.image.now c.args.schedule.now f) c.in-Err-Broken.field-0-is
    c.in-Err-Broken.ensures.err)
