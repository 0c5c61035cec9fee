use Rattle.std.proofs.Common.{List, subst}
use Rattle.runner.specs.declared.schedule.Turn.{Turn}
use Rattle.schedules.specs.Minimal.{IsMinimal}
use Rattle.schedules.proofs.shrinking.shrink.Goals as goal

pub returns : goal.returns
returns c = record {
  fails = c.in_ok-failure.ensures;
  alike = c.in_ok-turns.ensures.0;
  no_longer = c.in_ok-turns.ensures.1;
  minimal = λ is. subst (λ (ts : List Turn). IsMinimal c.args.image.now ts c.in_ok-failure.failure) c.as_slice.ensures.value
      (c.in_ok-minimal.ensures is);
}
