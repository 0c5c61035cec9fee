use Rattle.std.proofs.Common.{ℕ, subst, suc, sym}
use Rattle.program.specs.Views.{program_of}
use Rattle.source_reaching.specs.Among.{AreCovered}
use Rattle.source_search.specs.Covered.{IsFollowedOwn}
use Rattle.source_search.specs.Kept.{states_in, states_of}
use Rattle.source_search.specs.Known.{AreWithin, IsKnownAt, behind_all}
use Rattle.source_search.specs.Packed.{unpacked}
use Rattle.source_search.proofs.Keeping.{longer_still, longer_twice}
use Rattle.source_search.proofs.Packing.{grown_twice, sound_still, unpacked_still, within_still}
use Rattle.source_search.proofs.Remembered.{all_still, kept_known, known_followed, known_still, known_within}
use Rattle.source_search.proofs.Remembered.{spot_within}
use Rattle.source_search.proofs.kept.Kept.follow_ends.Goals as goal

pub returns-in_default-clause-sound : goal.returns-in_default-clause-sound
returns-in_default-clause-sound c = sound_still c.args.self.now.parts c.learn.new.self c.in_ok-known.ensures.grown
    c.args.self.now.states.items c.requires.sound

pub returns-in_default-clause-longer : goal.returns-in_default-clause-longer
returns-in_default-clause-longer c = longer_still c.args.self.now.parts c.learn.new.self c.in_ok-known.ensures.grown
    c.args.self.now.states.items c.requires.sound

pub returns-in_default-clause-known : goal.returns-in_default-clause-known
returns-in_default-clause-known c = all_still c.args.self.now.parts c.learn.new.self c.in_ok-known.ensures.grown
    (program_of c.args.checked.now.tree) c.args.memo.now c.requires.known

pub cover_known-requires-clause-sound : goal.cover_known-requires-clause-sound
cover_known-requires-clause-sound c = sound_still c.args.self.now.parts c.learn.new.self c.in_ok-known.ensures.grown
    c.args.self.now.states.items c.requires.sound

pub cover_known-requires-clause-within : goal.cover_known-requires-clause-within
cover_known-requires-clause-within c = within_still c.args.self.now.parts c.learn.new.self c.in_ok-known.ensures.grown
    c.args.packed.now c.requires.within

pub cover_known-requires-clause-there : goal.cover_known-requires-clause-there
cover_known-requires-clause-there c =
    let p = program_of c.args.checked.now.tree in
    let a = c.args.self.now.parts in
    let x = c.args.packed.now in
    let spot = c.args.spot in
    let all = rw c.in-Some.is at c.in_ok-known.ensures.known in
    let at : IsKnownAt p c.learn.new.self spot c.in-Some.known =
    all (spot_within a x c.args.place spot c.requires.within c.requires.spot) c.requires.ends c.requires.moves in
    subst (AreWithin c.learn.new.self (suc c.args.place)) (sym c.outcomes-outcomes.ensures)
    (known_within p c.learn.new.self x c.args.place spot c.in-Some.known c.requires.spot at)

pub returns-clause-grown : goal.returns-clause-grown
returns-clause-grown c = grown_twice c.args.self.now.parts c.learn.new.self c.cover_known.new.self.parts
    c.in_ok-known.ensures.grown c.in_ok-kept.ensures.grown

pub returns-clause-longer : goal.returns-clause-longer
returns-clause-longer c =
    longer_twice (states_of c.args.self.now) (states_in c.learn.new.self c.args.self.now.states.items)
    (states_of c.cover_known.new.self)
    (longer_still c.args.self.now.parts c.learn.new.self c.in_ok-known.ensures.grown c.args.self.now.states.items
    c.requires.sound)
    c.in_ok-kept.ensures.longer

pub returns-clause-known : goal.returns-clause-known
returns-clause-known c =
    let p = program_of c.args.checked.now.tree in
    let a = c.args.self.now.parts in
    let b = c.learn.new.self in
    let d = c.cover_known.new.self.parts in
    let x = c.args.packed.now in
    let spot = c.args.spot in
    let all = rw c.in-Some.is at c.in_ok-known.ensures.known in
    let at : IsKnownAt p b spot c.in-Some.known =
    all (spot_within a x c.args.place spot c.requires.within c.requires.spot) c.requires.ends c.requires.moves in
    kept_known p d c.args.memo.now
    (all_still a d (grown_twice a b d c.in_ok-known.ensures.grown c.in_ok-kept.ensures.grown) p c.args.memo.now
    c.requires.known)
    c.keep.new.self c.in-Some.known c.keep.ensures
    (known_still b d c.in_ok-kept.ensures.grown p c.in-Some.known at.known)

pub returns-clause-followed : goal.returns-clause-followed
returns-clause-followed c = λ e.
    let p = program_of c.args.checked.now.tree in
    let a = c.args.self.now.parts in
    let b = c.learn.new.self in
    let x = c.args.packed.now in
    let spot = c.args.spot in
    let all = rw c.in-Some.is at c.in_ok-known.ensures.known in
    let at : IsKnownAt p b spot c.in-Some.known =
    all (spot_within a x c.args.place spot c.requires.within c.requires.spot) c.requires.ends c.requires.moves in
    subst (λ s. IsFollowedOwn p (states_of c.cover_known.new.self) s (suc c.args.place))
    (unpacked_still a b c.in_ok-known.ensures.grown x c.requires.within)
    (known_followed p b x c.args.place spot c.in-Some.known c.requires.spot at (states_of c.cover_known.new.self)
    (subst (λ outcomes. (n : ℕ) × AreCovered p (states_of c.cover_known.new.self) n (unpacked b x).process
    (behind_all b (suc c.args.place) outcomes)) c.outcomes-outcomes.ensures (c.in_ok-kept.ensures.covered e)))
