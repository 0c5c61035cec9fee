use Rattle.std.proofs.Common.{arith, below_more, suc}
use Rattle.image_states.specs.Ends.{IsLive}
use Rattle.image_states.specs.Packed.{unpacked}
use Rattle.image_states.proofs.Found.{live_absent, none_is}
use Rattle.image_states.proofs.parts.Parts.some_is_live.Goals as goal

pub returns-then-is_live : goal.returns-then-is_live
returns-then-is_live c = λ p. (suc c.loop-k.k, rw c.if-is_live.true at (c.is_live.ensures p))

pub loop-k-preserved : goal.loop-k-preserved
loop-k-preserved c = λ p.
    below_more (λ j. IsLive (unpacked p c.args.self.now c.args.packed.now) (suc j) → ⊥) c.loop-k.k (c.loop-k.invariant p)
    (rw c.if-is_live.false at (c.is_live.ensures p))

pub returns : goal.returns
returns c = λ p.
    none_is p c.args.self.now c.args.packed.now (IsLive (unpacked p c.args.self.now c.args.packed.now))
    (live_absent (unpacked p c.args.self.now c.args.packed.now)) c.loop-k.k (omega (arith, c.loop-k-test.false))
    (c.loop-k.invariant p)
