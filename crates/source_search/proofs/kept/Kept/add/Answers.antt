use Rattle.source_search.proofs.Keeping.{kept_last, longer_one, sound_one}
use Rattle.source_search.proofs.kept.Kept.add.Goals as goal

pub returns-clause-sound : goal.returns-clause-sound
returns-clause-sound c =
    sound_one c.args.self.now.parts c.args.self.now.states.items c.push-2.new.self.items c.args.packed
    c.in_ok-push-2.ensures.items c.requires.sound c.requires.within

pub returns-clause-longer : goal.returns-clause-longer
returns-clause-longer c =
    longer_one c.args.self.now.parts c.args.self.now.states.items c.push-2.new.self.items c.args.packed
    c.in_ok-push-2.ensures.items

pub returns-clause-kept : goal.returns-clause-kept
returns-clause-kept c = λ e.
    kept_last c.args.self.now.parts c.args.self.now.states.items c.push-2.new.self.items c.args.packed
    c.in_ok-push-2.ensures.items
