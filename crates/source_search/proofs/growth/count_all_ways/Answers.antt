use Rattle.std.proofs.Common.{◌≡◌, Some, arith, slice_get, subst, suc, sym}
use Rattle.source_search.specs.Growth.{HasStood}
use Rattle.source_search.specs.Kept.{states_in}
use Rattle.source_search.proofs.Growing.{each_more, have_stood}
use Rattle.source_search.proofs.growth.count_all_ways.Goals as goal

pub loop-place-preserved : goal.loop-place-preserved
loop-place-preserved c =
    let kept = states_in c.args.parts.now c.args.states.now in
    record {
      count = grind (arith, c.in_ok-push.ensures.items, c.loop-place.invariant.count);
      each = λ k n e. each_more (λ j m. HasStood kept (suc j) m) c.loop-place.counts.items c.in_ok-ways.ways
          c.loop-place.invariant.each
          (subst (λ j. HasStood kept (suc j) c.in_ok-ways.ways) (sym c.loop-place.invariant.count) c.in_ok-ways.ensures)
          k n (subst (λ xs. slice_get xs k ≡ Some n) c.in_ok-push.ensures.items e);
    }

pub returns : goal.returns
returns c =
    have_stood c.args.parts.now c.args.states.now c.args.most c.loop-place.counts.items c.requires.few
    (omega (arith, c.loop-place.invariant.count, c.loop-place-test.false)) c.loop-place.invariant.each
