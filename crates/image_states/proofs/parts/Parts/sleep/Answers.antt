use Rattle.std.proofs.Common.{◌≡◌, ◌+◌, ◌∷◌, [], Some, ap, arith, length, subst, suc, sym}
use Rattle.buckets.specs.Places.{with_place}
use Rattle.image_states.specs.Choosing.{HasPlaced}
use Rattle.image_states.specs.Nexts.{IsBase, ReachesAt}
use Rattle.image_states.specs.Packed.{asleep_at, place_of, words_in}
use Rattle.image_states.specs.Room.{AreThreads}
use Rattle.image_states.proofs.Growing.{more_grown}
use Rattle.image_states.proofs.Stepped.{base_placed}
use Rattle.image_states.proofs.Within.{one_thread}
use Rattle.image_states.proofs.parts.Parts.sleep.Goals as goal

pub returns-in-None-clause-more : goal.returns-in-None-clause-more
returns-in-None-clause-more c =
    more_grown c.args.self.now c.stand.new.self c.args.found.now.items c.in_ok-stand.ensures.grown

pub returns-in-None-clause-why : goal.returns-in-None-clause-why
returns-in-None-clause-why c = rw c.in-None.is at c.in_ok-stand.ensures.full

pub push_placed-requires : goal.push_placed-requires
push_placed-requires c =
    let x = c.args.packed.now in
    let base : IsBase c.args.image.now c.stand.new.self x c.args.k x.memory c.go_on.new.self c.in-Some.state =
    rw c.in-Some.is at c.in_ok-stand.ensures.stands in
    subst (λ ns. AreThreads (length ns) (c.args.t ∷ [])) (sym base.moved.places)
    (one_thread c.args.self.now x c.requires.within c.args.k c.args.t c.requires.number c.requires.made)

pub returns-in_ok-push_placed-in-Some-clause-more : goal.returns-in_ok-push_placed-in-Some-clause-more
returns-in_ok-push_placed-in-Some-clause-more c = record {
  parts = c.in_ok-stand.ensures.grown;
  nexts = c.in_ok-push_placed-in-Some.ensures.longer;
}

pub returns-in_ok-push_placed-in-Some-clause-reaches : goal.returns-in_ok-push_placed-in-Some-clause-reaches
returns-in_ok-push_placed-in-Some-clause-reaches c =
    let p = c.args.image.now in
    let x = c.args.packed.now in
    let t = c.args.t in
    let state = c.in-Some.state in
    let found = c.push_placed.new.found.items in
    let base : IsBase p c.stand.new.self x c.args.k x.memory c.go_on.new.self state =
    rw c.in-Some.is at c.in_ok-stand.ensures.stands in
    let place_is : place_of (c.args.address.0 + 1) ≡ Some c.args.address.0 =
    (let e : c.args.address.0 + 1 ≡ suc c.args.address.0 = omega arith in ap place_of e) in
    λ none. subst (λ z. ReachesAt p c.stand.new.self x found t (words_in c.stand.new.self.memories.items x.memory)
    (with_place (asleep_at x.places.items) (t ∷ []) (Some c.args.address.0)) z) c.go_on.ensures
    (base_placed p c.args.self.now c.stand.new.self x state c.args.k t x.memory c.go_on.new.self found
    (with_place (asleep_at x.places.items) (t ∷ []) (Some c.args.address.0)) c.requires.number c.in_ok-stand.ensures.grown
    c.requires.within (c.requires.within).memory base
    (subst (λ q. HasPlaced state found (with_place (asleep_at x.places.items) (t ∷ []) q)) place_is
    (subst (λ ns. HasPlaced state found (with_place (asleep_at ns) (t ∷ []) (place_of (c.args.address.0 + 1))))
    base.moved.places c.in_ok-push_placed-in-Some.ensures.placed)))
