use Rattle.image_search.proofs.Flagging.{still_none, still_twice}
use Rattle.image_search.proofs.at_once.mark_often.Goals as goal

pub loop-init : goal.loop-init
loop-init c = record { sound = c.requires.sound; still = still_none c.args.kept.now; known = c.requires.known }

pub mark_back-requires-clause-sound : goal.mark_back-requires-clause-sound
mark_back-requires-clause-sound c = c.loop.invariant.sound

pub mark_back-requires-clause-known : goal.mark_back-requires-clause-known
mark_back-requires-clause-known c = c.loop.invariant.known

pub returns-then-not-branch-clause-still : goal.returns-then-not-branch-clause-still
returns-then-not-branch-clause-still c =
    still_twice c.args.kept.now c.loop.kept c.mark_back.new.kept c.loop.invariant.still c.in_ok-mark_back.ensures.still

pub loop-preserved : goal.loop-preserved
loop-preserved c = record {
  sound = c.in_ok-mark_back.ensures.sound;
  still = still_twice c.args.kept.now c.loop.kept c.mark_back.new.kept c.loop.invariant.still
      c.in_ok-mark_back.ensures.still;
  known = c.in_ok-mark_back.ensures.known;
}

pub returns-clause-sound : goal.returns-clause-sound
returns-clause-sound c = c.loop.invariant.sound

pub returns-clause-still : goal.returns-clause-still
returns-clause-still c = c.loop.invariant.still

pub returns-clause-known : goal.returns-clause-known
returns-clause-known c = c.loop.invariant.known
