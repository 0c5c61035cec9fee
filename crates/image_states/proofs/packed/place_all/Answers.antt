use Rattle.std.proofs.Common.{◌≤◌, ◌-◌, ◌∙◌, ap, get_or, length, refl, subst, sym}
use Rattle.std.proofs.lemmas.List.{length-set, take_all}
use Rattle.buckets.specs.Places.{with_place}
use Rattle.image_states.specs.Packed.{asleep_at, place_of}
use Rattle.image_states.proofs.Sleeping.{placed_more}
use Rattle.image_states.proofs.packed.place_all.Goals as goal

pub loop-t-init : goal.loop-t-init
loop-t-init c = record { placed = refl; count = refl }

pub place_one-requires : goal.place_one-requires
place_one-requires c =
    let is = c.requires c.loop-t.t-index 0 c.loop-t-test.true in
    (is.0, subst (λ n. get_or c.args.chosen.now c.loop-t.t-index 0 ≤ n) (sym c.loop-t.invariant.count) is.1)

pub loop-t-preserved : goal.loop-t-preserved
loop-t-preserved c =
    let t = get_or c.args.chosen.now c.loop-t.t-index 0 in
    let is = c.requires c.loop-t.t-index 0 c.loop-t-test.true in
    let fits = subst (λ n. t ≤ n) (sym c.loop-t.invariant.count) is.1 in
    record {
      placed = ap asleep_at c.place_one.ensures
          ∙ placed_more c.args.places.now c.loop-t.places c.args.chosen.now c.loop-t.t-index t c.args.place
          c.loop-t-test.true refl is.0 fits c.loop-t.invariant.placed;
      count = ap length c.place_one.ensures ∙ length-set c.loop-t.places (t - 1) c.args.place ∙ c.loop-t.invariant.count;
    }

pub returns-clause-placed : goal.returns-clause-placed
returns-clause-placed c =
    c.loop-t.invariant.placed
    ∙ ap (λ list. with_place (asleep_at c.args.places.now) list (place_of c.args.place))
    (take_all c.loop-t.t-index c.args.chosen.now c.loop-t-test.false)

pub returns-clause-count : goal.returns-clause-count
returns-clause-count c = c.loop-t.invariant.count
