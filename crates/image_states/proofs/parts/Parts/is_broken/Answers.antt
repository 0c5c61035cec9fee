use Rattle.std.proofs.Common.{arith, below_more, suc, inl}
use Rattle.machine.specs.Runs.{NextIsBroken}
use Rattle.image_states.specs.Packed.{unpacked}
use Rattle.image_states.proofs.Found.{broken_absent, none_is}
use Rattle.image_states.proofs.parts.Parts.is_broken.Goals as goal

pub loop-k-preserved : goal.loop-k-preserved
loop-k-preserved c =
    below_more (λ j. NextIsBroken c.args.image.now (unpacked c.args.image.now c.args.self.now c.args.packed.now) (suc j) → ⊥)
    c.loop-k.k c.loop-k.invariant (rw c.if-is_broken_at.false at c.is_broken_at.ensures)

pub returns-then-is_broken_at-clause-broken : goal.returns-then-is_broken_at-clause-broken
returns-then-is_broken_at-clause-broken c = λ e.
    inl (suc c.loop-k.k, rw c.if-is_broken_at.true at c.is_broken_at.ensures)

pub returns-clause-whole : goal.returns-clause-whole
returns-clause-whole c = λ e.
    none_is c.args.image.now c.args.self.now c.args.packed.now
    (NextIsBroken c.args.image.now (unpacked c.args.image.now c.args.self.now c.args.packed.now))
    (broken_absent c.args.image.now (unpacked c.args.image.now c.args.self.now c.args.packed.now)) c.loop-k.k
    (omega (arith, c.loop-k-test.false)) c.loop-k.invariant
