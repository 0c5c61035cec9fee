-- Processes that the table holds up, whatever else is in the state.
use Rattle.std.proofs.Common.{◌≡◌, not, ℕ, Bool, true, false, MatchBool, Some, subst}
use Rattle.program.specs.Trees.{Program}
use Rattle.meaning.specs.Offers.{offer}
use Rattle.meaning.specs.Runs.{CanMove}
use Rattle.meaning.specs.States.{SourceState}
use Rattle.meaning.specs.Table.{Table}
use Rattle.source_offers.specs.Frames.{callers_of, frame_of}
use Rattle.source_offers.specs.Stages.{process_of, standing}
use Rattle.source_offers.specs.declared.process.Process.{Process as ProcessOf}
use Rattle.source_offers.specs.declared.process.Stage.{Stage as StageOf}
use Rattle.sourcemeaning.specs.Moving.{CanBeTakenUp}
use Rattle.sourcemeaning.proofs.Moves.{moves}

-- what is decided so doesn't hold where the answer is no
pub refused : (b : Bool) (X : Type 0) → MatchBool b X (X → ⊥) → not b ≡ true → X → ⊥
refused true X decided denied = absurd (let e : false ≡ true = denied in cc)
refused false X decided denied = decided

-- a process that stands so can't move, where this table doesn't let what it offers be taken up
pub held_at : (p : Program) (s : SourceState) (n : ℕ) (t : Table) (q : ProcessOf) (stage : StageOf) → q.stage ≡ stage
    → s.table ≡ t → s.process n ≡ Some (process_of q)
    → (CanBeTakenUp n t (offer p s.variable (standing stage (frame_of q.frame) (callers_of q.callers.items))) → ⊥)
    → CanMove p s n → ⊥
held_at p s n t q stage is same stands never can =
    never (subst (λ u. CanBeTakenUp n u (offer p s.variable (standing stage (frame_of q.frame) (callers_of q.callers.items))))
    same (subst (λ st. CanBeTakenUp n s.table (offer p s.variable (standing st (frame_of q.frame)
    (callers_of q.callers.items)))) is ((moves p s n (process_of q) stands).1 can)))
