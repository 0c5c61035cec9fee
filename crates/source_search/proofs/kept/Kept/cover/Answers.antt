use Rattle.std.proofs.Common.{subst, sym}
use Rattle.program.specs.Views.{program_of}
use Rattle.source_search.specs.Covered.{IsAheadOf}
use Rattle.source_search.specs.Kept.{states_in, states_of}
use Rattle.source_search.specs.Packed.{IsGrown}
use Rattle.source_search.proofs.Keeping.{longer_still, longer_twice}
use Rattle.source_search.proofs.Packing.{sound_still}
use Rattle.source_search.proofs.kept.Kept.cover.Goals as goal

pub returns-in_default-clause-sound : goal.returns-in_default-clause-sound
returns-in_default-clause-sound c =
    sound_still c.args.self.now.parts c.settle.new.self c.in_ok-settled.ensures.grown c.args.self.now.states.items
    c.requires.sound

pub returns-in_default-clause-longer : goal.returns-in_default-clause-longer
returns-in_default-clause-longer c =
    longer_still c.args.self.now.parts c.settle.new.self c.in_ok-settled.ensures.grown c.args.self.now.states.items
    c.requires.sound

pub keep_packed-requires-clause-sound : goal.keep_packed-requires-clause-sound
keep_packed-requires-clause-sound c =
    sound_still c.args.self.now.parts c.settle.new.self c.in_ok-settled.ensures.grown c.args.self.now.states.items
    c.requires.sound

pub keep_packed-requires-clause-within : goal.keep_packed-requires-clause-within
keep_packed-requires-clause-within c =
    let is : IsAheadOf (program_of c.args.checked.now.tree) c.args.self.now.parts c.settle.new.self c.args.packed
    c.in-Some.settled =
    rw c.in-Some.is at (c.in_ok-settled.ensures.ahead c.requires.within) in
    is.within

pub returns-clause-grown : goal.returns-clause-grown
returns-clause-grown c =
    subst (IsGrown c.args.self.now.parts) (sym c.in_ok-kept.ensures.parts) c.in_ok-settled.ensures.grown

pub returns-clause-longer : goal.returns-clause-longer
returns-clause-longer c =
    longer_twice (states_of c.args.self.now) (states_in c.settle.new.self c.args.self.now.states.items)
    (states_of c.keep_packed.new.self)
    (longer_still c.args.self.now.parts c.settle.new.self c.in_ok-settled.ensures.grown c.args.self.now.states.items
    c.requires.sound)
    c.in_ok-kept.ensures.longer

pub returns-clause-covered : goal.returns-clause-covered
returns-clause-covered c = λ e.
    let is : IsAheadOf (program_of c.args.checked.now.tree) c.args.self.now.parts c.settle.new.self c.args.packed
    c.in-Some.settled =
    rw c.in-Some.is at (c.in_ok-settled.ensures.ahead c.requires.within) in
    is.ahead (states_of c.keep_packed.new.self) 0 (c.in_ok-kept.ensures.kept e)
