use Rattle.std.proofs.Common.{arith, below_more, suc}
use Rattle.image_states.specs.Ends.{IsFailingAt}
use Rattle.image_states.specs.Packed.{unpacked}
use Rattle.image_states.proofs.Found.{failing_absent, none_is}
use Rattle.image_states.proofs.parts.Parts.has_failed.Goals as goal

pub returns-then-is_failing : goal.returns-then-is_failing
returns-then-is_failing c = let is = rw c.if-is_failing.true at c.is_failing.ensures in (suc c.loop-k.k, is.0, is.1)

pub loop-k-preserved : goal.loop-k-preserved
loop-k-preserved c =
    below_more (λ j. IsFailingAt (unpacked c.args.image.now c.args.self.now c.args.packed.now) (suc j) → ⊥) c.loop-k.k
    c.loop-k.invariant (rw c.if-is_failing.false at c.is_failing.ensures)

pub returns : goal.returns
returns c = λ failed.
    none_is c.args.image.now c.args.self.now c.args.packed.now
    (IsFailingAt (unpacked c.args.image.now c.args.self.now c.args.packed.now))
    (failing_absent (unpacked c.args.image.now c.args.self.now c.args.packed.now)) c.loop-k.k
    (omega (arith, c.loop-k-test.false)) c.loop-k.invariant failed.0 (failed.1, failed.2)
