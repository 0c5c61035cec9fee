use Rattle.source_search.proofs.Packing.{grown_none, grown_twice, sound_still}
use Rattle.source_search.proofs.kept.Kept.spread.Goals as goal

pub loop-init : goal.loop-init
loop-init c = record {
  sound = c.requires.sound;
  grown = grown_none c.args.self.now.parts;
  known = c.requires.known;
  live = c.requires.live;
}

pub look_back-requires-clause-within : goal.look_back-requires-clause-within
look_back-requires-clause-within c = sound_still c.args.self.now.parts c.loop.self.parts c.loop.invariant.grown
    c.args.states.now c.requires.within

pub loop-preserved : goal.loop-preserved
loop-preserved c = record {
  sound = c.in_ok-look_back.ensures.sound;
  grown = grown_twice c.args.self.now.parts c.loop.self.parts c.look_back.new.self.parts
      c.loop.invariant.grown c.in_ok-look_back.ensures.grown;
  known = c.in_ok-look_back.ensures.known;
  live = c.in_ok-look_back.ensures.live;
}
