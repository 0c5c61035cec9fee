use Rattle.source_states.specs.States.{state_of}
use Rattle.source_search.specs.Kept.{states_in, states_of}
use Rattle.source_search.specs.Packed.{IsPackedOf, unpacked}
use Rattle.source_search.proofs.Keeping.{kept_like, longer_still, longer_twice}
use Rattle.source_search.proofs.Packing.{sound_still}
use Rattle.source_search.proofs.kept.Kept.keep.Goals as goal

pub returns-in_default-clause-sound : goal.returns-in_default-clause-sound
returns-in_default-clause-sound c =
    sound_still c.args.self.now.parts c.pack.new.self c.in_ok-packed.ensures.grown c.args.self.now.states.items
    c.requires.sound

pub returns-in_default-clause-longer : goal.returns-in_default-clause-longer
returns-in_default-clause-longer c =
    longer_still c.args.self.now.parts c.pack.new.self c.in_ok-packed.ensures.grown c.args.self.now.states.items
    c.requires.sound

pub keep_packed-requires-clause-sound : goal.keep_packed-requires-clause-sound
keep_packed-requires-clause-sound c =
    sound_still c.args.self.now.parts c.pack.new.self c.in_ok-packed.ensures.grown c.args.self.now.states.items
    c.requires.sound

pub keep_packed-requires-clause-within : goal.keep_packed-requires-clause-within
keep_packed-requires-clause-within c =
    let are : IsPackedOf c.pack.new.self c.in-Some.packed (state_of c.args.state) =
    rw c.in-Some.is at c.in_ok-packed.ensures.packed in
    are.within

pub returns-clause-longer : goal.returns-clause-longer
returns-clause-longer c =
    longer_twice (states_of c.args.self.now) (states_in c.pack.new.self c.args.self.now.states.items)
    (states_of c.keep_packed.new.self)
    (longer_still c.args.self.now.parts c.pack.new.self c.in_ok-packed.ensures.grown c.args.self.now.states.items
    c.requires.sound)
    c.in_ok-kept.ensures.longer

pub returns-clause-kept : goal.returns-clause-kept
returns-clause-kept c = λ e.
    let are : IsPackedOf c.pack.new.self c.in-Some.packed (state_of c.args.state) =
    rw c.in-Some.is at c.in_ok-packed.ensures.packed in
    kept_like (states_of c.keep_packed.new.self) (unpacked c.pack.new.self c.in-Some.packed) (state_of c.args.state)
    (c.in_ok-kept.ensures.kept e) are.like
