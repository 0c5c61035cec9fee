use Rattle.std.proofs.Common.{All, length, subst, sym}
use Rattle.image_states.specs.Choosing.{lists_in, HasEachSet, HasPlaced}
use Rattle.image_states.specs.Packed.{asleep_at, place_of}
use Rattle.image_states.specs.Room.{AreThreads}
use Rattle.image_states.proofs.Choosing.{is_listed, listed, placed_same}
use Rattle.image_states.proofs.Listing.{adds_none}
use Rattle.image_states.proofs.waking.push_choices.Goals as goal

pub returns-in_default-clause-adds : goal.returns-in_default-clause-adds
returns-in_default-clause-adds c = adds_none c.args.packed.now c.args.to c.args.found.now.items

pub returns-in_default-clause-why : goal.returns-in_default-clause-why
returns-in_default-clause-why c = λ parts. rw c.in_default.is at c.in_ok-lists.ensures.many

pub push_sets-requires : goal.push_sets-requires
push_sets-requires c =
    subst (λ ls. All (AreThreads (length c.args.packed.now.places.items)) (lists_in ls)) (sym c.as_slice.ensures.value)
    ((rw c.in-Some.is at c.in_ok-lists.ensures.threads) (length c.args.packed.now.places.items) c.requires)

pub returns-clause-each : goal.returns-clause-each
returns-clause-each c =
    let packed = c.args.packed.now in
    let sleepers = c.args.sleepers.now in
    let each : HasEachSet sleepers (lists_in c.as_slice.result.now) =
    subst (λ ls. HasEachSet sleepers (lists_in ls)) (sym c.as_slice.ensures.value)
    (rw c.in-Some.is at c.in_ok-lists.ensures.each) in
    λ none place are chosen chose.
    let l = is_listed packed.places.items place c.args.size sleepers chosen are chose (lists_in c.as_slice.result.now) each in
    subst (HasPlaced packed c.push_sets.new.found.items)
    (placed_same packed.places.items place c.args.size sleepers chosen are chose (asleep_at packed.places.items)
    (place_of c.args.to))
    (c.in_ok-push_sets.ensures.each (listed packed.places.items place c.args.size sleepers chosen are chose) l.0 l.1)
