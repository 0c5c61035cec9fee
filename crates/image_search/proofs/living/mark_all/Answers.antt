use Rattle.image_search.proofs.Flagging.{still_none, still_twice}
use Rattle.image_search.proofs.living.mark_all.Goals as goal

pub loop-place-init : goal.loop-place-init
loop-place-init c = record {
  sound = c.requires.sound;
  still = still_none c.args.kept.now;
  known = c.requires.known;
}

pub mark-requires-clause-sound : goal.mark-requires-clause-sound
mark-requires-clause-sound c = c.loop-place.invariant.sound

pub mark-requires-clause-known : goal.mark-requires-clause-known
mark-requires-clause-known c = c.loop-place.invariant.known

pub loop-place-preserved : goal.loop-place-preserved
loop-place-preserved c = record {
  sound = c.in_ok-mark.ensures.sound;
  still = still_twice c.args.kept.now c.loop-place.kept c.mark.new.kept c.loop-place.invariant.still
      c.in_ok-mark.ensures.still;
  known = c.in_ok-mark.ensures.known;
}

pub returns-clause-sound : goal.returns-clause-sound
returns-clause-sound c = c.loop-place.invariant.sound

pub returns-clause-still : goal.returns-clause-still
returns-clause-still c = c.loop-place.invariant.still

pub returns-clause-known : goal.returns-clause-known
returns-clause-known c = c.loop-place.invariant.known
