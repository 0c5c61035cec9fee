use Rattle.std.proofs.Common.{false}
use Rattle.image_states.specs.Packed.{unpacked}
use Rattle.image_states.proofs.Found.{stuck_so}
use Rattle.image_states.proofs.parts.Parts.is_stuck.Goals as goal

pub returns-then-some_can_step : goal.returns-then-some_can_step
returns-then-some_can_step c = λ p stuck.
    let can = rw c.if-some_can_step.true at (c.some_can_step.ensures p) in stuck.rests can.0 can.1

pub returns : goal.returns
returns c = λ p.
    stuck_so (unpacked p c.args.self.now c.args.packed.now) false c.some_is_live.result
    (rw c.if-some_can_step.false at (c.some_can_step.ensures p)) (c.some_is_live.ensures p)
