use Rattle.std.proofs.Common.{arith}
use Rattle.runner.specs.declared.schedule.Turn.TheVariants.{Step}
use Rattle.schedules.proofs.Counting.{counted_all, one_more}
use Rattle.schedules.proofs.switching.switches.Goals as goal

pub loop-turn-preserved : goal.loop-turn-preserved
loop-turn-preserved c =
    let l = c.loop-turn in
    let more = one_more l.last c.args.schedule.now l.turn-index (Step 0) c.loop-turn-test.true in
    record {
      counted = omega (arith, more, l.invariant.counted, c.switch_at-count.ensures.value);
      few = omega (arith, l.invariant.few, c.switch_at-count.ensures.few);
    }

pub returns : goal.returns
returns c =
    let l = c.loop-turn in
    omega (arith, counted_all l.last c.args.schedule.now l.turn-index c.loop-turn-test.false, l.invariant.counted)
