use Rattle.std.proofs.Common.{◌≡◌, None, Some, sym, ◌∙◌}
use Rattle.image_states.specs.Packed.{unpacked}
use Rattle.image_states.proofs.Sparing.{apart_here, not_awake}
use Rattle.image_states.proofs.parts.Parts.is_apart_at.Goals as goal

pub returns-then-place-ne0 : goal.returns-then-place-ne0
returns-then-place-ne0 c = λ e x stands awake. absurd
    (not_awake c.args.packed.now.places.items c.args.k c.place.result c.place.ensures c.if-place-ne0.true awake)

pub returns-in-None : goal.returns-in-None
returns-in-None c = λ e x stands awake. absurd (let no' : None ≡ Some x =
    sym (rw c.in-None.is at c.thread.ensures.none) ∙ stands in cc)

pub returns-in-Some-thread : goal.returns-in-Some-thread
returns-in-Some-thread c = λ e.
    apart_here c.args.image.now (unpacked c.args.image.now c.args.self.now c.args.packed.now) c.in-Some.t c.args.k
    c.in-Some-thread.local.now c.in-Some.ensures.some (rw c.in-Some-thread.is at c.thread.ensures.some) (c.spares_step.ensures e)
