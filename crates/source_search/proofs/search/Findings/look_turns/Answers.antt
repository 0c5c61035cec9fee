use Rattle.std.proofs.Common.{◌≡◌, ◌∙◌, ℕ, subst, sym, true}
use Rattle.program.specs.Views.{program_of}
use Rattle.meaning.specs.Runs.{CanMove}
use Rattle.proof_exploration.specs.Exploring.{IsStuck}
use Rattle.source_search.specs.Kept.{IsKeptAt, states_of}
use Rattle.source_search.specs.Packed.{unpacked}
use Rattle.source_search.proofs.Coverage.{expanded_turns}
use Rattle.source_search.proofs.Packing.{unpacked_still}
use Rattle.source_search.proofs.search.Findings.look_turns.Goals as goal

pub expand_turns-requires-clause-within : goal.expand_turns-requires-clause-within
expand_turns-requires-clause-within c =
    let at : IsKeptAt c.args.kept.now c.args.place c.in-Some.packed =
    rw c.in-Some.is at (c.in_ok-packed.ensures c.requires.sound) in
    at.within

pub note_stuck-requires : goal.note_stuck-requires
note_stuck-requires c = λ e.
    let p = program_of c.args.checked.now.tree in
    let a = c.args.kept.now.parts in
    let b = c.expand_turns.new.self.parts in
    let at : IsKeptAt c.args.kept.now c.args.place c.in-Some.packed =
    rw c.in-Some.is at (c.in_ok-packed.ensures c.requires.sound) in
    let can : c.in-Some-2.moves ≡ true → (t : ℕ) × CanMove p (unpacked a c.in-Some.packed) t =
    rw c.in-Some-2.is at c.in_ok-moves.ensures.moves in
    subst (λ s. (t : ℕ) × CanMove p s t)
    (sym (unpacked_still a b c.in_ok-moves.ensures.grown c.in-Some.packed at.within)) (can e)

pub returns-clause-looked : goal.returns-clause-looked
returns-clause-looked c = λ e.
    let p = program_of c.args.checked.now.tree in
    let a = c.args.kept.now.parts in
    let b = c.expand_turns.new.self.parts in
    let x = c.in-Some.packed in
    let at : IsKeptAt c.args.kept.now c.args.place x = rw c.in-Some.is at (c.in_ok-packed.ensures c.requires.sound) in
    record {
      state = unpacked a x;
      here = at.here;
      expanded = expanded_turns p c.args.outside c.requires.turns (states_of c.expand_turns.new.self) a x
          (rw c.in-Some-2.is at c.in_ok-moves.ensures.followed);
      stuck = λ none. let told = c.in_ok-told.ensures.stuck e none in (
        sym c.note_failed.ensures.stuck ∙ told.0,
        subst (λ s. IsStuck p s → ⊥) (unpacked_still a b c.in_ok-moves.ensures.grown x at.within) told.1,
      );
      aborted = λ none. c.note_failed.ensures.aborted (sym c.in_ok-told.ensures.aborted ∙ none);
    }
