use Rattle.std.proofs.Common.{suc, subst}
use Rattle.machine.specs.Runs.{IsBroken}
use Rattle.locals.specs.Looks.{look}
use Rattle.std.specs.Prelude.{MatchBool}
use Rattle.image_states.specs.Packed.{unpacked}
use Rattle.image_states.proofs.Found.{awake_zero, broken_absent, broken_asleep, broken_at}
use Rattle.image_states.proofs.parts.Parts.is_broken_at.Goals as goal

pub returns-then-place-ne0 : goal.returns-then-place-ne0
returns-then-place-ne0 c = broken_asleep c.args.image.now c.args.self.now c.args.packed.now c.args.k c.place.result
    c.place.ensures c.if-place-ne0.true

pub returns-in-None : goal.returns-in-None
returns-in-None c = broken_absent c.args.image.now (unpacked c.args.image.now c.args.self.now c.args.packed.now)
    (suc c.args.k) (rw c.in-None.is at c.thread.ensures.none)

pub returns-in-Some : goal.returns-in-Some
returns-in-Some c =
    let s = unpacked c.args.image.now c.args.self.now c.args.packed.now in
    broken_at c.args.image.now s (suc c.args.k) c.in-Some.local.now c.breaks.result
    (rw c.in-Some.is at c.thread.ensures.some)
    (awake_zero c.args.image.now c.args.self.now c.args.packed.now c.args.k c.place.result c.place.ensures c.if-place-ne0.false)
    (subst (λ t. MatchBool c.breaks.result (IsBroken s (look c.args.image.now t c.in-Some.local.now))
    (IsBroken s (look c.args.image.now t c.in-Some.local.now) → ⊥)) c.requires c.breaks.ensures)
