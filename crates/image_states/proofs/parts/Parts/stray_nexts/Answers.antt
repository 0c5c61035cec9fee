use Rattle.std.proofs.Common.{◌≡◌, ◌∙◌, false, true, sym}
use Rattle.image_states.proofs.Results.{on_ok}
use Rattle.image_states.proofs.Turned.{stray_absent, stray_done}
use Rattle.image_states.proofs.Within.{one_thread}
use Rattle.image_states.proofs.parts.Parts.stray_nexts.Goals as goal

pub returns-then-not-strays-clause-done : goal.returns-then-not-strays-clause-done
returns-then-not-strays-clause-done c = λ is. absurd (let differ : true ≡ false = sym is ∙ c.if-not-strays.true in cc)

pub returns-then-place-eq0-clause-done : goal.returns-then-place-eq0-clause-done
returns-then-place-eq0-clause-done c = λ is p.
    stray_absent p c.args.self.now c.args.packed.now c.args.found.now.items c.args.t c.args.k c.requires.number
    (sym c.place.ensures ∙ c.if-place-eq0.true)

pub push_placed-requires : goal.push_placed-requires
push_placed-requires c =
    one_thread c.args.self.now c.args.packed.now c.requires.within c.args.k c.args.t c.requires.number c.requires.made

pub returns-clause-done : goal.returns-clause-done
returns-clause-done c = on_ok c.push_placed.result _ _ c.push_placed.ensures.placed (λ has is p.
    stray_done p c.args.self.now c.args.packed.now c.push_placed.new.found.items c.args.t c.requires.within has)
