use Rattle.std.proofs.Common.{List, subst}
use Rattle.runner.specs.declared.schedule.Turn.{Turn}
use Rattle.schedules.specs.Failing.{FailsOn}
use Rattle.guided_schedules.proofs.following.tried.Goals as goal

pub returns-then-fails : goal.returns-then-fails
returns-then-fails c =
    subst (λ (ts : List Turn). FailsOn c.args.image.now ts c.args.failure) c.as_slice.ensures.value
    (c.in_ok-fails.ensures c.if-fails.true)
