use Rattle.std.proofs.Common.{subst, sym}
use Rattle.program.specs.Views.{program_of}
use Rattle.source_search.specs.Covered.{IsCoveredSo}
use Rattle.source_search.specs.Kept.{states_of}
use Rattle.source_search.specs.Known.{IsMovedTo}
use Rattle.source_search.specs.Packed.{IsGrown}
use Rattle.source_search.proofs.Packing.{grown_none}
use Rattle.source_search.proofs.Remembered.{moved_same, moved_within}
use Rattle.source_search.proofs.kept.Kept.cover_outcome.Goals as goal

pub returns-then-outcome-clause-grown : goal.returns-then-outcome-clause-grown
returns-then-outcome-clause-grown c = subst (IsGrown c.args.self.now.parts) (sym c.in_ok-kept.ensures.parts)
    (grown_none c.args.self.now.parts)

pub returns-then-outcome-clause-covered : goal.returns-then-outcome-clause-covered
returns-then-outcome-clause-covered c = λ e. (0, c.in_ok-kept.ensures.kept e)

pub cover-requires-clause-within : goal.cover-requires-clause-within
cover-requires-clause-within c =
    let moved : IsMovedTo c.args.packed.now c.args.place c.args.outcome.now c.in-Some.next =
    rw c.in-Some.is at c.in_ok-next.ensures in
    moved_within c.args.self.now.parts c.args.packed.now c.in-Some.next c.args.place c.args.outcome.now moved
    c.requires.there c.requires.within

pub returns-clause-covered : goal.returns-clause-covered
returns-clause-covered c = λ e.
    let moved : IsMovedTo c.args.packed.now c.args.place c.args.outcome.now c.in-Some.next =
    rw c.in-Some.is at c.in_ok-next.ensures in
    subst (IsCoveredSo (program_of c.args.checked.now.tree) (states_of c.cover.new.self))
    (moved_same c.args.self.now.parts c.args.packed.now c.in-Some.next c.args.place c.args.outcome.now moved c.requires.there)
    (c.in_ok-covered.ensures.covered e)
