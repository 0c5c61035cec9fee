use Rattle.std.proofs.Common.{subst}
use Rattle.proof_exploration.specs.Searching.{IsKept}
use Rattle.source_search.specs.Kept.{states_of}
use Rattle.source_search.specs.Known.{IsMovedTo}
use Rattle.source_search.proofs.Keeping.{longer_none}
use Rattle.source_search.proofs.Remembered.{kept_moved, moved_same, moved_within}
use Rattle.source_search.proofs.kept.Kept.keep_moved.Goals as goal

pub returns-then-has_moved-clause-longer : goal.returns-then-has_moved-clause-longer
returns-then-has_moved-clause-longer c = longer_none (states_of c.args.self.now)

pub returns-then-has_moved-clause-kept : goal.returns-then-has_moved-clause-kept
returns-then-has_moved-clause-kept c = λ e.
    kept_moved c.args.self.now.parts c.args.self.now.states.items c.args.packed.now c.args.place c.args.outcome
    c.requires.there (c.has_moved.ensures c.if-has_moved.true)

pub returns-in_default-clause-longer : goal.returns-in_default-clause-longer
returns-in_default-clause-longer c = longer_none (states_of c.args.self.now)

pub add-requires-clause-within : goal.add-requires-clause-within
add-requires-clause-within c =
    let moved : IsMovedTo c.args.packed.now c.args.place c.args.outcome c.in-Some.next =
    rw c.in-Some.is at c.in_ok-next.ensures in
    moved_within c.args.self.now.parts c.args.packed.now c.in-Some.next c.args.place c.args.outcome moved
    c.requires.there c.requires.within

pub returns-clause-kept : goal.returns-clause-kept
returns-clause-kept c = λ e.
    let moved : IsMovedTo c.args.packed.now c.args.place c.args.outcome c.in-Some.next =
    rw c.in-Some.is at c.in_ok-next.ensures in
    subst (IsKept (states_of c.add.new.self))
    (moved_same c.args.self.now.parts c.args.packed.now c.in-Some.next c.args.place c.args.outcome moved c.requires.there)
    (c.in_ok-kept.ensures.kept e)
