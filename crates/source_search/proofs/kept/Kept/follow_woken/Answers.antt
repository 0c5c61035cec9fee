use Rattle.std.proofs.Common.{◌∙◌, subst, suc, sym}
use Rattle.program.specs.Views.{program_of}
use Rattle.source_search.specs.Covered.{IsFollowedOwn}
use Rattle.source_search.specs.Kept.{states_in, states_of}
use Rattle.source_search.specs.Packed.{unpacked}
use Rattle.source_search.specs.Waking.{IsWokenOf}
use Rattle.source_search.proofs.Keeping.{longer_still, longer_twice}
use Rattle.source_search.proofs.Packing.{grown_twice, sound_still}
use Rattle.source_search.proofs.Remembered.{all_still}
use Rattle.source_search.proofs.Woken.{some_told}
use Rattle.source_search.proofs.kept.Kept.follow_woken.Goals as goal

pub returns-in_default-clause-sound : goal.returns-in_default-clause-sound
returns-in_default-clause-sound c = sound_still c.args.self.now.parts c.wake_at.new.self c.in_ok-woken.ensures.grown
    c.args.self.now.states.items c.requires.sound

pub returns-in_default-clause-longer : goal.returns-in_default-clause-longer
returns-in_default-clause-longer c = longer_still c.args.self.now.parts c.wake_at.new.self c.in_ok-woken.ensures.grown
    c.args.self.now.states.items c.requires.sound

pub returns-in_default-clause-known : goal.returns-in_default-clause-known
returns-in_default-clause-known c = all_still c.args.self.now.parts c.wake_at.new.self c.in_ok-woken.ensures.grown
    (program_of c.args.checked.now.tree) c.args.memo.now c.requires.known

pub follow_spot-requires-clause-sound : goal.follow_spot-requires-clause-sound
follow_spot-requires-clause-sound c = sound_still c.args.self.now.parts c.wake_at.new.self c.in_ok-woken.ensures.grown
    c.args.self.now.states.items c.requires.sound

pub follow_spot-requires-clause-within : goal.follow_spot-requires-clause-within
follow_spot-requires-clause-within c =
    let is : IsWokenOf c.args.self.now.parts c.wake_at.new.self c.args.packed.now (suc c.args.place) c.in-Some.woken =
    rw c.in-Some.is at c.in_ok-woken.ensures.woken in
    is.within c.requires.within

pub follow_spot-requires-clause-known : goal.follow_spot-requires-clause-known
follow_spot-requires-clause-known c = all_still c.args.self.now.parts c.wake_at.new.self c.in_ok-woken.ensures.grown
    (program_of c.args.checked.now.tree) c.args.memo.now c.requires.known

pub returns-clause-grown : goal.returns-clause-grown
returns-clause-grown c = grown_twice c.args.self.now.parts c.wake_at.new.self c.follow_spot.new.self.parts
    c.in_ok-woken.ensures.grown c.in_ok-followed.ensures.grown

pub returns-clause-longer : goal.returns-clause-longer
returns-clause-longer c =
    longer_twice (states_of c.args.self.now) (states_in c.wake_at.new.self c.args.self.now.states.items)
    (states_of c.follow_spot.new.self)
    (longer_still c.args.self.now.parts c.wake_at.new.self c.in_ok-woken.ensures.grown c.args.self.now.states.items
    c.requires.sound)
    c.in_ok-followed.ensures.longer

pub returns-clause-followed : goal.returns-clause-followed
returns-clause-followed c = λ e.
    let is : IsWokenOf c.args.self.now.parts c.wake_at.new.self c.args.packed.now (suc c.args.place) c.in-Some.woken =
    rw c.in-Some.is at c.in_ok-woken.ensures.woken in
    subst (λ s. IsFollowedOwn (program_of c.args.checked.now.tree) (states_of c.follow_spot.new.self) s (suc c.args.place))
    (is.same c.requires.within) (some_told c.in_ok-followed.followed (IsFollowedOwn (program_of c.args.checked.now.tree)
    (states_of c.follow_spot.new.self) (unpacked c.wake_at.new.self c.in-Some.woken) (suc c.args.place))
    (sym c.is_some.ensures ∙ e) c.in_ok-followed.ensures.followed)
