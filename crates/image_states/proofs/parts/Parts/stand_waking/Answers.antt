use Rattle.image_states.specs.Room.{AreThreads}
use Rattle.std.proofs.lemmas.Option.{IfSome_then}
use Rattle.std.proofs.Common.{subst, sym, length}
use Rattle.std.proofs.lemmas.Result.{IfOk-weaker}
use Rattle.buckets.specs.Places.{with_place}
use Rattle.image_states.specs.Choosing.{AreChosen, AreSleepers, HasPlaced}
use Rattle.image_states.specs.Nexts.{IsBase}
use Rattle.image_states.specs.Packed.{asleep_at, place_of}
use Rattle.image_states.proofs.Growing.{more_grown}
use Rattle.image_states.proofs.Results.{on_ok}
use Rattle.image_states.proofs.Stepped.{base_placed}
use Rattle.image_states.proofs.parts.Parts.stand_waking.Goals as goal

pub returns-in-None-clause-more : goal.returns-in-None-clause-more
returns-in-None-clause-more c =
    more_grown c.args.self.now c.stand.new.self c.args.found.now.items c.in_ok-stand.ensures.grown

pub returns-in-Some-clause-more : goal.returns-in-Some-clause-more
returns-in-Some-clause-more c = on_ok c.push_choices.result _ _ c.push_choices.ensures.longer
    (λ e. record { parts = c.in_ok-stand.ensures.grown; nexts = e })

pub returns-in-Some-clause-reaches : goal.returns-in-Some-clause-reaches
returns-in-Some-clause-reaches c =
    let x = c.args.packed.now in
    let state = c.in-Some.state in
    let base : IsBase c.args.image.now c.stand.new.self x c.args.k c.args.memory c.args.scratch.now.here state =
    rw c.in-Some.is at c.in_ok-stand.ensures.stands in
    IfOk-weaker c.push_choices.result _ _ (λ o h none place are woken chose.
    base_placed c.args.image.now c.args.self.now c.stand.new.self x state c.args.k c.args.t c.args.memory
    c.args.scratch.now.here c.push_choices.new.found.items (with_place (asleep_at x.places.items) woken (place_of c.args.to))
    c.requires.number c.in_ok-stand.ensures.grown c.requires.within c.requires.memory base
    (subst (λ ns. HasPlaced state c.push_choices.new.found.items (with_place (asleep_at ns) woken (place_of c.args.to))) base.moved.places
    (h none place
    (subst (λ ns. AreSleepers ns place c.args.sleepers.now) (sym base.moved.places) are) woken
    (subst (λ ns. AreChosen ns place c.args.size woken) (sym base.moved.places) chose)))) c.push_choices.ensures.each

pub returns-in-None-clause-why : goal.returns-in-None-clause-why
returns-in-None-clause-why c = rw c.in-None.is at c.in_ok-stand.ensures.full

pub push_choices-requires : goal.push_choices-requires
push_choices-requires c =
    let base : IsBase c.args.image.now c.stand.new.self c.args.packed.now c.args.k c.args.memory c.args.scratch.now.here c.in-Some.state =
    rw c.in-Some.is at c.in_ok-stand.ensures.stands in
    subst (λ ns. AreThreads (length ns) c.args.sleepers.now) (sym base.moved.places) c.requires.threads

pub returns-in-Some-clause-why : goal.returns-in-Some-clause-why
returns-in-Some-clause-why c =
    IfOk-weaker c.push_choices.result _ _ (λ o h. IfSome_then o h (λ why is. is c.stand.new.self)) c.push_choices.ensures.why
