use Rattle.std.proofs.Common.{◌≤◌, ◌∙◌, ◌+◌, Bool, arith, length, refl, subst, sym}
use Rattle.std.proofs.lemmas.List.{length-map}
use Rattle.image_states.specs.Nexts.{may_of}
use Rattle.image_states.specs.Packed.{kept_of}
use Rattle.image_states.proofs.Listing.{is_none}
use Rattle.image_search.specs.Kept.{IsLookedAt, states_of}
use Rattle.image_search.proofs.Keeping.{states_more}
use Rattle.image_search.proofs.Searched.{IsSoFar, at_first, ended_so, goes_on, some_ended}
use Rattle.image_search.proofs.search.search.Goals as goal

pub loop-place-init : goal.loop-place-init
loop-place-init g c = record {
  sound = c.requires.sound;
  most = refl;
  alone = refl;
  so_far = at_first c.args.image.now c.args.kept.now.parts.alone (may_of c.args.outside)
      (states_of c.args.image.now c.args.kept.now) c.requires.opens;
}

pub loop-place-preserved : goal.loop-place-preserved
loop-place-preserved g c =
    let p = c.args.image.now in
    let may = may_of c.args.outside in
    let kept = c.loop-place.kept in
    let kept' = c.look_at.new.kept in
    let alone = kept.parts.alone in
    let more = c.in_ok-ending.ensures.more in
    let looked : IsLookedAt p alone may (states_of p kept) (states_of p kept') c.loop-place.place c.loop-place.passed
    c.look_at.new.passed =
    rw (is_none c.in_ok-ending.ending c.is_some.result c.is_some.ensures c.if-is_some.false)
    at c.in_ok-ending.ensures.looked in
    let so_far : IsSoFar p alone may (states_of p kept') (c.loop-place.place + 1) c.look_at.new.passed =
    goes_on p alone may (states_of p kept) (states_of p kept') c.loop-place.place c.loop-place.passed
    c.look_at.new.passed c.loop-place.invariant.so_far (states_more p kept kept' c.loop-place.invariant.sound more) looked
    (λ r at. c.is_apart_at.ensures.apart c.if-not-is_apart_at.false r at) in
    record {
      sound = c.in_ok-ending.ensures.sound;
      most = more.most ∙ c.loop-place.invariant.most;
      alone = more.parts.alone ∙ c.loop-place.invariant.alone;
      so_far = subst (λ (b : Bool). IsSoFar p b may (states_of p kept') (c.loop-place.place + 1) c.look_at.new.passed)
          (sym more.parts.alone) so_far;
    }

pub returns-then-place-len-clause-ended : goal.returns-then-place-len-clause-ended
returns-then-place-len-clause-ended g c =
    let p = c.args.image.now in
    let kept = c.loop-place.kept in
    let end : length (states_of p kept) ≤ c.loop-place.place =
    omega (
      arith,
      c.if-place-len.true,
      c.len.ensures,
      kept.states.ok.0,
      length-map kept.states.items (kept_of p kept.parts),
    ) in
    ended_so p kept.parts.alone (may_of c.args.outside) (states_of p kept) c.loop-place.place c.loop-place.passed
    c.loop-place.invariant.so_far end c.args.kept.now.most c.ending_of.result c.ending_of.ensures

pub returns-then-is_some-clause-most : goal.returns-then-is_some-clause-most
returns-then-is_some-clause-most g c = c.in_ok-ending.ensures.more.most ∙ c.loop-place.invariant.most

pub returns-then-is_some-clause-ended : goal.returns-then-is_some-clause-ended
returns-then-is_some-clause-ended g c =
    let p = c.args.image.now in
    let may = may_of c.args.outside in
    let kept = c.loop-place.kept in
    let kept' = c.look_at.new.kept in
    let more = c.in_ok-ending.ensures.more in
    some_ended p kept.parts.alone kept'.parts.alone may kept'.most c.args.kept.now.most (states_of p kept')
    c.in_ok-ending.ending
    (IsLookedAt p kept.parts.alone may (states_of p kept) (states_of p kept') c.loop-place.place c.loop-place.passed
    c.look_at.new.passed)
    (sym more.parts.alone) (more.most ∙ c.loop-place.invariant.most)
    c.in_ok-ending.ensures.looked

pub returns-then-len-kept-clause-ended : goal.returns-then-len-kept-clause-ended
returns-then-len-kept-clause-ended g c =
    let p = c.args.image.now in
    let kept = c.loop-place.kept in
    let end : length (states_of p kept) ≤ c.loop-place.place =
    omega (
      arith,
      c.if-len-kept.true,
      c.len-2.ensures,
      c.loop-place-test.false,
      c.loop-place.invariant.most,
      kept.states.ok.0,
      length-map kept.states.items (kept_of p kept.parts),
    ) in
    ended_so p kept.parts.alone (may_of c.args.outside) (states_of p kept) c.loop-place.place c.loop-place.passed
    c.loop-place.invariant.so_far end c.args.kept.now.most c.ending_of-then-len-kept.result
    c.ending_of-then-len-kept.ensures

pub look_at-requires-clause-place : goal.look_at-requires-clause-place
look_at-requires-clause-place g c = omega (arith, c.if-place-len.false, c.len.ensures, c.loop-place.kept.states.ok.0)

pub returns-then-not-is_apart_at-clause-alone : goal.returns-then-not-is_apart_at-clause-alone
returns-then-not-is_apart_at-clause-alone g c =
    sym c.loop-place.invariant.alone ∙ c.is_apart_at.ensures.alone c.if-not-is_apart_at.true
