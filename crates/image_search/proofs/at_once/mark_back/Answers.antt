use Rattle.image_search.proofs.Flagging.{still_none, still_twice}
use Rattle.image_search.proofs.at_once.mark_back.Goals as goal

pub loop-behind-init : goal.loop-behind-init
loop-behind-init c = record {
  sound = c.requires.sound;
  still = still_none c.args.kept.now;
  known = c.requires.known;
}

pub mark_for_all-requires-clause-sound : goal.mark_for_all-requires-clause-sound
mark_for_all-requires-clause-sound c = c.loop-behind.invariant.sound

pub mark_for_all-requires-clause-known : goal.mark_for_all-requires-clause-known
mark_for_all-requires-clause-known c = c.loop-behind.invariant.known

pub loop-behind-preserved : goal.loop-behind-preserved
loop-behind-preserved c = record {
  sound = c.in_ok-mark_for_all.ensures.sound;
  still = still_twice c.args.kept.now c.loop-behind.kept c.mark_for_all.new.kept c.loop-behind.invariant.still
      c.in_ok-mark_for_all.ensures.still;
  known = c.in_ok-mark_for_all.ensures.known;
}

pub returns-clause-sound : goal.returns-clause-sound
returns-clause-sound c = c.loop-behind.invariant.sound

pub returns-clause-still : goal.returns-clause-still
returns-clause-still c = c.loop-behind.invariant.still

pub returns-clause-known : goal.returns-clause-known
returns-clause-known c = c.loop-behind.invariant.known
