use Rattle.std.proofs.Common.{arith, below_more, suc}
use Rattle.image_states.specs.Ends.{IsApartAt}
use Rattle.image_states.specs.Packed.{unpacked}
use Rattle.image_states.proofs.Sparing.{apart_all}
use Rattle.image_states.proofs.parts.Parts.is_apart.Goals as goal

pub loop-k-preserved : goal.loop-k-preserved
loop-k-preserved c =
    below_more
    (λ j. IsApartAt c.args.image.now (unpacked c.args.image.now c.args.self.now c.args.packed.now) (suc j))
    c.loop-k.k c.loop-k.invariant (c.is_apart_at.ensures c.if-not-is_apart_at.false)

pub returns : goal.returns
returns c = λ e.
    apart_all c.args.image.now c.args.self.now c.args.packed.now c.loop-k.k (omega (arith, c.loop-k-test.false))
    c.loop-k.invariant
