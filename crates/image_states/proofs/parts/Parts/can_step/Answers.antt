use Rattle.std.proofs.Common.{suc}
use Rattle.image_states.specs.Packed.{unpacked}
use Rattle.image_states.proofs.Found.{awake_zero, can_asleep, can_step_awake}
use Rattle.image_states.proofs.parts.Parts.can_step.Goals as goal

pub returns-then-place-ne0 : goal.returns-then-place-ne0
returns-then-place-ne0 c = λ p.
    can_asleep p c.args.self.now c.args.packed.now c.args.k c.place.result c.place.ensures c.if-place-ne0.true

pub returns : goal.returns
returns c = λ p.
    can_step_awake (unpacked p c.args.self.now c.args.packed.now) (suc c.args.k) c.is_live.result (c.is_live.ensures p)
    (awake_zero p c.args.self.now c.args.packed.now c.args.k c.place.result c.place.ensures c.if-place-ne0.false)
