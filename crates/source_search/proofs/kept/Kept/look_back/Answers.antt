use Rattle.std.proofs.Common.{◌<◌, ◌-◌, arith, length, subst, sym}
use Rattle.source_search.specs.Packed.{IsWithin}
use Rattle.source_search.proofs.Packing.{grown_none, grown_twice, sound_still}
use Rattle.source_search.proofs.kept.Kept.look_back.Goals as goal

pub loop-behind-init : goal.loop-behind-init
loop-behind-init c = record {
  sound = c.requires.sound;
  grown = grown_none c.args.self.now.parts;
  known = c.requires.known;
  live = c.requires.live;
}

pub look_again-requires-clause-within : goal.look_again-requires-clause-within
look_again-requires-clause-within c =
    let less : length c.args.states.now - 1 - c.loop-behind.behind < length c.args.states.now =
    omega (arith, c.loop-behind-test.true) in
    subst (IsWithin c.loop-behind.self.parts) (sym c.index-states-states.is)
    (sound_still c.args.self.now.parts c.loop-behind.self.parts c.loop-behind.invariant.grown c.args.states.now
    c.requires.within (length c.args.states.now - 1 - c.loop-behind.behind) c.index-states-states.result less)

pub loop-behind-preserved : goal.loop-behind-preserved
loop-behind-preserved c = record {
  sound = c.in_ok-look_again.ensures.sound;
  grown = grown_twice c.args.self.now.parts c.loop-behind.self.parts c.look_again.new.self.parts
      c.loop-behind.invariant.grown c.in_ok-look_again.ensures.grown;
  known = c.in_ok-look_again.ensures.known;
  live = c.in_ok-look_again.ensures.live;
}
