use Rattle.std.proofs.Common.{arith, below_more, suc}
use Rattle.machine.specs.Runs.{CanStep}
use Rattle.image_states.specs.Packed.{unpacked}
use Rattle.image_states.proofs.Found.{can_absent, none_is}
use Rattle.image_states.proofs.parts.Parts.some_can_step.Goals as goal

pub returns-then-can_step : goal.returns-then-can_step
returns-then-can_step c = λ p. (suc c.loop-k.k, rw c.if-can_step.true at (c.can_step.ensures p))

pub loop-k-preserved : goal.loop-k-preserved
loop-k-preserved c = λ p.
    below_more (λ j. CanStep (unpacked p c.args.self.now c.args.packed.now) (suc j) → ⊥) c.loop-k.k (c.loop-k.invariant p)
    (rw c.if-can_step.false at (c.can_step.ensures p))

pub returns : goal.returns
returns c = λ p.
    none_is p c.args.self.now c.args.packed.now (CanStep (unpacked p c.args.self.now c.args.packed.now))
    (can_absent (unpacked p c.args.self.now c.args.packed.now)) c.loop-k.k (omega (arith, c.loop-k-test.false))
    (c.loop-k.invariant p)
