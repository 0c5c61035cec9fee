use Rattle.std.proofs.Common.{arith}
use Rattle.std.proofs.lemmas.Result.{IfOk-weaker}
use Rattle.schedules.proofs.shrinking.is_shorter.Goals as goal

pub returns : goal.returns
returns c =
    IfOk-weaker c.fails_on.result _ _ (λ fails known is. (
      known is,
      record {
        entries = omega (arith, c.if-turns-given.false);
        few = omega (arith, c.if-switches.false, c.switches.ensures, c.switches-else-turns-given.ensures);
      },
    ))
    c.fails_on.ensures
