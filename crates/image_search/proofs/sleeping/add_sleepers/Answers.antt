use Rattle.image_search.proofs.Flagging.{still_none, still_twice}
use Rattle.image_search.proofs.sleeping.add_sleepers.Goals as goal

pub loop-before-init : goal.loop-before-init
loop-before-init c = record {
  sound = c.requires.sound;
  still = still_none c.args.kept.now;
  sleep = c.requires.sleep;
}

pub add_sleeper-requires-clause-sound : goal.add_sleeper-requires-clause-sound
add_sleeper-requires-clause-sound c = c.loop-before.invariant.sound

pub add_sleeper-requires-clause-sleep : goal.add_sleeper-requires-clause-sleep
add_sleeper-requires-clause-sleep c = c.loop-before.invariant.sleep

pub loop-before-preserved : goal.loop-before-preserved
loop-before-preserved c = record {
  sound = c.in_ok-add_sleeper.ensures.sound;
  still = still_twice c.args.kept.now c.loop-before.kept c.add_sleeper.new.kept c.loop-before.invariant.still
      c.in_ok-add_sleeper.ensures.still;
  sleep = c.in_ok-add_sleeper.ensures.sleep;
}

pub returns-clause-sound : goal.returns-clause-sound
returns-clause-sound c = c.loop-before.invariant.sound

pub returns-clause-still : goal.returns-clause-still
returns-clause-still c = c.loop-before.invariant.still

pub returns-clause-sleep : goal.returns-clause-sleep
returns-clause-sleep c = c.loop-before.invariant.sleep
