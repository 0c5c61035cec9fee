use Rattle.std.proofs.Common.{◌≡◌, Contains, length, subst, sym}
use Rattle.std.proofs.lemmas.List.{take_all}
use Rattle.buckets.specs.Places.{with_place}
use Rattle.image_states.specs.Choosing.{lists_in, HasPlaced}
use Rattle.image_states.specs.Packed.{asleep_at, place_of}
use Rattle.image_states.specs.Room.{AreThreads}
use Rattle.image_states.proofs.Growing.{prefix_none, prefix_twice}
use Rattle.image_states.proofs.Listing.{adds_none, adds_twice, none_listed, one_more_list, placed_still, threads_at}
use Rattle.image_states.proofs.waking.push_sets.Goals as goal

pub loop-list-init : goal.loop-list-init
loop-list-init c = record {
  longer = prefix_none c.args.found.now.items;
  each = λ chosen has. absurd (none_listed c.args.lists.now chosen has);
  adds = adds_none c.args.packed.now c.args.to c.args.found.now.items;
}

pub push_set-requires : goal.push_set-requires
push_set-requires c =
    subst (AreThreads (length c.args.packed.now.places.items)) (sym c.as_slice.ensures.value)
    (threads_at (length c.args.packed.now.places.items) c.args.lists.now c.loop-list.list-index c.list-item.result
    c.loop-list-test.true c.list-item.is c.requires)

pub loop-list-preserved : goal.loop-list-preserved
loop-list-preserved c =
    let packed = c.args.packed.now in
    record {
      longer = prefix_twice c.args.found.now.items c.loop-list.found.items c.push_set.new.found.items
          c.loop-list.invariant.longer c.in_ok-push_set.ensures.longer;
      each = one_more_list
          (λ chosen. length chosen ≡ c.args.size → HasPlaced packed c.push_set.new.found.items
          (with_place (asleep_at packed.places.items) chosen (place_of c.args.to)))
          c.args.lists.now c.loop-list.list-index c.list-item.result c.loop-list-test.true c.list-item.is
          (λ chosen has size. placed_still packed c.loop-list.found.items c.push_set.new.found.items
          (with_place (asleep_at packed.places.items) chosen (place_of c.args.to)) c.in_ok-push_set.ensures.longer
          (c.loop-list.invariant.each chosen has size))
          (λ size. subst (λ ns. HasPlaced packed c.push_set.new.found.items
          (with_place (asleep_at packed.places.items) ns (place_of c.args.to))) c.as_slice.ensures.value
          (c.in_ok-push_set.ensures.placed
          (subst (λ ns. length ns ≡ c.args.size) (sym c.as_slice.ensures.value) size)));
      adds = adds_twice packed c.args.to c.args.found.now.items c.loop-list.found.items c.push_set.new.found.items
          c.loop-list.invariant.adds c.in_ok-push_set.ensures.adds;
    }

pub returns-clause-each : goal.returns-clause-each
returns-clause-each c = λ chosen has size.
    c.loop-list.invariant.each chosen
    (subst (λ ls. Contains (lists_in ls) chosen) (sym (take_all c.loop-list.list-index c.args.lists.now c.loop-list-test.false)) has)
    size
