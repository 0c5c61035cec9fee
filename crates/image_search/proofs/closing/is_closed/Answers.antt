use Rattle.std.proofs.Common.{◌≡◌, Some, arith, below_more, slice_get, suc, true}
use Rattle.std.proofs.lemmas.Option.{slice_get_within}
use Rattle.image_search.specs.Living.{HoldsAt, IsClosed}
use Rattle.image_search.proofs.Closed.{are_asleep}
use Rattle.image_search.proofs.Flagging.{closed_still, still_none, still_twice}
use Rattle.image_search.proofs.closing.is_closed.Goals as goal

pub loop-place-init : goal.loop-place-init
loop-place-init c = record {
  sound = c.requires.sound;
  still = still_none c.args.kept.now;
  closed = λ i less. absurd (omega (arith, less));
}

pub is_closed_where-requires : goal.is_closed_where-requires
is_closed_where-requires c = record { sound = c.loop-place.invariant.sound }

pub returns-then-not-branch-clause-still : goal.returns-then-not-branch-clause-still
returns-then-not-branch-clause-still c = still_twice c.args.kept.now c.loop-place.kept c.is_closed_where.new.kept
    c.loop-place.invariant.still c.in_ok-is_closed_where.ensures.still

pub loop-place-preserved : goal.loop-place-preserved
loop-place-preserved c =
    let p = c.args.image.now in
    let kept = c.is_closed_where.new.kept in
    let flags = c.args.flags.now in
    record {
      sound = c.in_ok-is_closed_where.ensures.sound;
      still = still_twice c.args.kept.now c.loop-place.kept kept c.loop-place.invariant.still
          c.in_ok-is_closed_where.ensures.still;
      closed = below_more (λ i. slice_get flags i ≡ Some true → HoldsAt p kept i (IsClosed p (suc c.args.k) kept flags))
          c.loop-place.place
          (λ i less is. closed_still p c.loop-place.kept kept flags i (suc c.args.k) c.loop-place.invariant.sound
          c.in_ok-is_closed_where.ensures.still (c.loop-place.invariant.closed i less is))
          (c.in_ok-is_closed_where.ensures.closed c.if-not-branch.false);
    }

pub returns-clause-sound : goal.returns-clause-sound
returns-clause-sound c = c.loop-place.invariant.sound

pub returns-clause-still : goal.returns-clause-still
returns-clause-still c = c.loop-place.invariant.still

pub returns-clause-closed : goal.returns-clause-closed
returns-clause-closed c = λ e.
    are_asleep c.args.image.now (suc c.args.k) c.loop-place.kept c.args.flags.now
    (λ i is. let within = slice_get_within c.args.flags.now i true is in
    c.loop-place.invariant.closed i (omega (arith, within, c.loop-place-test.false, c.if-flags-kept.false)) is)
