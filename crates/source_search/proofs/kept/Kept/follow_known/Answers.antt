use Rattle.std.proofs.Common.{◌<◌, ℕ, arith, length, subst, suc, sym}
use Rattle.std.proofs.lemmas.Bool.Decides.{nat_tests}
use Rattle.program.specs.Views.{program_of}
use Rattle.source_reaching.specs.Among.{AreCovered}
use Rattle.source_search.specs.Kept.{states_of}
use Rattle.source_search.specs.Known.{AreWithin, behind_all}
use Rattle.source_search.specs.Packed.{unpacked}
use Rattle.source_search.proofs.Remembered.{known_followed, known_moves, known_within}
use Rattle.source_search.proofs.kept.Kept.follow_known.Goals as goal

pub cover_known-requires-clause-there : goal.cover_known-requires-clause-there
cover_known-requires-clause-there c =
    subst (AreWithin c.args.self.now.parts (suc c.args.place)) (sym c.outcomes-outcomes.ensures)
    (known_within (program_of c.args.checked.now.tree) c.args.self.now.parts c.args.packed.now c.args.place c.args.spot
    c.args.known.now c.requires.spot c.requires.known)

pub returns-clause-followed : goal.returns-clause-followed
returns-clause-followed c =
    let p = program_of c.args.checked.now.tree in
    let parts = c.args.self.now.parts in
    let x = c.args.packed.now in
    let kept = states_of c.cover_known.new.self in
    known_followed p parts x c.args.place c.args.spot c.args.known.now c.requires.spot c.requires.known kept
    (subst (λ outcomes. (n : ℕ) × AreCovered p kept n (unpacked parts x).process
    (behind_all parts (suc c.args.place) outcomes)) c.outcomes-outcomes.ensures
    (c.in_ok-cover_known.ensures.covered c.if-not-branch.false))

pub returns-clause-moves : goal.returns-clause-moves
returns-clause-moves c = λ e.
    let some : 0 < length c.outcomes-outcomes.result.now = grind (arith, nat_tests, e) in
    known_moves (program_of c.args.checked.now.tree) c.args.self.now.parts c.args.packed.now c.args.place c.args.spot
    c.args.known.now c.requires.spot c.requires.known (subst (λ outcomes. 0 < length outcomes) c.outcomes-outcomes.ensures some)
