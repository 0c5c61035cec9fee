use Rattle.std.proofs.Common.{List, subst}
use Rattle.runner.specs.declared.schedule.Turn.{Turn}
use Rattle.schedules.specs.Failing.{FailsOn}
use Rattle.schedules.specs.Shrinking.{IsNoLonger}
use Rattle.std.proofs.lemmas.Result.{IfOk-weaker}
use Rattle.schedules.proofs.Shorter.{fails_too, not_longer}
use Rattle.schedules.proofs.shrinking.shorter_one.Goals as goal

pub returns-then-shorter : goal.returns-then-shorter
returns-then-shorter c =
    let known = c.in_ok-shorter.ensures c.if-shorter.true in
    let turns = c.as_slice.ensures.value in (
      subst (λ (ts : List Turn). FailsOn c.args.image.now ts c.args.failure) turns known.0,
      subst (λ (ts : List Turn). IsNoLonger c.args.given.now ts) turns known.1,
    )

pub returns : goal.returns
returns c =
    IfOk-weaker c.from_slice.result _ _ (λ turns same. (
      fails_too c.args.image.now c.args.given.now turns.items c.args.failure same c.requires,
      not_longer c.args.given.now turns.items same,
    )) c.from_slice.ensures.items
