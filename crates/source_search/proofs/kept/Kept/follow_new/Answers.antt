use Rattle.std.proofs.Common.{◌≡◌, subst, sym}
use Rattle.program.specs.Views.{program_of}
use Rattle.meaning.specs.Runs.{CanMove}
use Rattle.source_reaching.specs.Among.{AreEnds}
use Rattle.source_reaching.specs.Ends.{ends_in}
use Rattle.source_states.specs.States.{state_of}
use Rattle.source_search.specs.Kept.{states_of}
use Rattle.source_search.specs.Spots.{IsAlone}
use Rattle.source_search.proofs.Coverage.{moves_too}
use Rattle.source_search.proofs.Remembered.{rests_followed, rests_kept, spot_within}
use Rattle.source_search.proofs.kept.Kept.follow_new.Goals as goal

pub returns-then-not-can_move-clause-known : goal.returns-then-not-can_move-clause-known
returns-then-not-can_move-clause-known c =
    let p = program_of c.args.checked.now.tree in
    let parts = c.args.self.now.parts in
    let spot = c.args.spot in
    let s = state_of c.in-Some.small in
    let single : IsAlone parts spot s = rw c.in-Some.is at c.in_ok-small.ensures in
    let number : c.from-process.result ≡ spot.process = c.from-process.ensures in
    let rests : CanMove p s c.from-process.result → ⊥ = rw c.if-not-can_move.true at c.can_move.ensures in
    rests_kept p parts spot s c.resting.result c.args.memo.now c.keep.new.self c.requires.known
    (spot_within parts c.args.packed.now c.args.place spot c.requires.within c.requires.spot) single
    (subst (λ t. CanMove p s t → ⊥) number rests) c.resting.ensures.same c.resting.ensures.none c.keep.ensures

pub returns-then-not-can_move-clause-followed : goal.returns-then-not-can_move-clause-followed
returns-then-not-can_move-clause-followed c =
    let p = program_of c.args.checked.now.tree in
    let parts = c.args.self.now.parts in
    let spot = c.args.spot in
    let s = state_of c.in-Some.small in
    let single : IsAlone parts spot s = rw c.in-Some.is at c.in_ok-small.ensures in
    let number : c.from-process.result ≡ spot.process = c.from-process.ensures in
    let rests : CanMove p s c.from-process.result → ⊥ = rw c.if-not-can_move.true at c.can_move.ensures in
    rests_followed p parts c.args.packed.now c.args.place spot s (states_of c.args.self.now) c.requires.spot single
    (subst (λ t. CanMove p s t → ⊥) number rests)

pub follow_ends-requires-clause-ends : goal.follow_ends-requires-clause-ends
follow_ends-requires-clause-ends c =
    let p = program_of c.args.checked.now.tree in
    let spot = c.args.spot in
    let s = state_of c.in-Some.small in
    let single : IsAlone c.args.self.now.parts spot s = rw c.in-Some.is at c.in_ok-small.ensures in
    let number : c.from-process.result ≡ spot.process = c.from-process.ensures in
    let own : AreEnds p c.from-process.result s (ends_in c.in-Some-2.ends.items) =
    rw c.in-Some-2.is at c.in_ok-ends.ensures in
    subst (λ r. AreEnds p spot.process r (ends_in c.as_slice-listed.result.now)) single.same
    (subst (λ t. AreEnds p t s (ends_in c.as_slice-listed.result.now)) number
    (subst (λ ends. AreEnds p c.from-process.result s (ends_in ends)) (sym c.as_slice-listed.ensures.value) own))

pub follow_ends-requires-clause-moves : goal.follow_ends-requires-clause-moves
follow_ends-requires-clause-moves c =
    let p = program_of c.args.checked.now.tree in
    let spot = c.args.spot in
    let s = state_of c.in-Some.small in
    let single : IsAlone c.args.self.now.parts spot s = rw c.in-Some.is at c.in_ok-small.ensures in
    let number : c.from-process.result ≡ spot.process = c.from-process.ensures in
    let can : CanMove p s c.from-process.result = rw c.if-not-can_move.false at c.can_move.ensures in
    subst (λ r. CanMove p r spot.process) single.same (subst (CanMove p s) number can)

pub returns-clause-moves : goal.returns-clause-moves
returns-clause-moves c = λ e.
    let p = program_of c.args.checked.now.tree in
    let spot = c.args.spot in
    let s = state_of c.in-Some.small in
    let single : IsAlone c.args.self.now.parts spot s = rw c.in-Some.is at c.in_ok-small.ensures in
    let number : c.from-process.result ≡ spot.process = c.from-process.ensures in
    let can : CanMove p s c.from-process.result = rw c.if-not-can_move.false at c.can_move.ensures in
    moves_too p c.args.self.now.parts c.args.packed.now c.args.place spot s c.requires.spot single
    (subst (CanMove p s) number can)

pub returns-clause-followed : goal.returns-clause-followed
returns-clause-followed c = c.in_ok-follow_ends.ensures.followed c.if-not-branch.false
