use Rattle.std.proofs.Common.{◌≡◌, ◌∙◌, ap, arith, length, refl, subst, sym}
use Rattle.buckets.specs.Places.{with_place}
use Rattle.std.specs.Vec.{with_items}
use Rattle.std.proofs.lemmas.List.{with_items_is}
use Rattle.image_states.specs.Packed.{asleep_at, place_of}
use Rattle.image_states.specs.Room.{AreThreads}
use Rattle.image_states.proofs.packed.placed.Goals as goal

pub place_all-requires : goal.place_all-requires
place_all-requires c =
    subst (λ ns. AreThreads (length ns) c.args.chosen.now)
    (sym (c.as_mut_slice.ensures.value ∙ c.in_ok-places.ensures.items ∙ c.as_slice-2.ensures.value)) c.requires

pub returns-clause-placed : goal.returns-clause-placed
returns-clause-placed c =
    let kept : (with_items c.in_ok-places.places c.place_all.new.places).items ≡ c.place_all.new.places =
    with_items_is c.in_ok-places.places c.place_all.new.places (omega (arith, c.place_all.auto.places, c.as_mut_slice.ensures.len)) in
    let were = c.as_mut_slice.ensures.value ∙ c.in_ok-places.ensures.items ∙ c.as_slice-2.ensures.value in
    record {
      memory = refl;
      parts = c.in_ok-parts.ensures.items ∙ c.as_slice.ensures.value;
      places = ap asleep_at kept ∙ c.place_all.ensures.placed
          ∙ ap (λ ns. with_place (asleep_at ns) c.args.chosen.now (place_of c.args.place)) were;
      count = ap length kept ∙ c.place_all.ensures.count ∙ ap length were;
    }
