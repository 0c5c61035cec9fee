use Rattle.std.proofs.Common.{refl, [], ◌∷◌}
use Rattle.image_search.proofs.Keeping.{key_last, sound_last}
use Rattle.image_search.proofs.kept.KeptStates.add.Goals as goal

pub returns-clause-sound : goal.returns-clause-sound
returns-clause-sound c =
    sound_last c.args.self.now.parts c.args.self.now.states.items c.push-2.new.self.items c.args.packed
    c.in_ok-push-2.ensures.items c.requires.sound c.requires.within

pub returns-clause-more : goal.returns-clause-more
returns-clause-more c = record {
  parts = refl;
  states = (c.args.packed ∷ [], c.in_ok-push-2.ensures.items);
  most = refl;
}

pub returns-clause-kept : goal.returns-clause-kept
returns-clause-kept c =
    key_last c.args.self.now.states.items c.push-2.new.self.items c.args.packed c.in_ok-push-2.ensures.items
