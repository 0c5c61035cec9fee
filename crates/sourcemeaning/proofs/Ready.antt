-- Processes, as the code keeps them, that can do what they offer.
use Rattle.std.proofs.Common.{◌≡◌, not, ℕ, ℤ, Bool, true, false, MatchBool, List, [], ◌∷◌, Result, Ok, Err, sym, subst}
use Rattle.std.specs.Prelude.{is_ok}
use Rattle.words.specs.declared.outcome.Fault.{Fault}
use Rattle.program.specs.Trees.{Program}
use Rattle.meaning.specs.Labels.{Cause}
use Rattle.meaning.specs.Processes.{Dying}
use Rattle.meaning.specs.Offers.{Offer, Rests, offer}
use Rattle.meaning.specs.Table.{Table}
use Rattle.meaning.specs.Values.{Evaluated, Value, Fails, Variables}
use Rattle.source_offers.specs.declared.process.Process.{Process as ProcessOf}
use Rattle.source_offers.specs.declared.process.Stage.{Stage as StageOf}
use Rattle.source_offers.specs.Frames.{callers_of, frame_of}
use Rattle.source_offers.specs.Outcomes.{evaluation_of}
use Rattle.source_offers.specs.Stages.{process_of, standing}
use Rattle.sourcemeaning.specs.Free.{IsFree}
use Rattle.sourcemeaning.specs.Moving.{CanBeTakenUp}
use Rattle.sourcemeaning.proofs.Moves.{HasWaiters, free_moves, rests_never}

abbrev pub IsReady : Bool → ℕ → Table → Offer → Type 0
IsReady b n t o = MatchBool b (CanBeTakenUp n t o) (CanBeTakenUp n t o → ⊥)

-- a process that stands so
pub ready_at : (p : Program) (v : Variables) (n : ℕ) (t : Table) (q : ProcessOf) (stage : StageOf) (b : Bool)
    → q.stage ≡ stage → IsReady b n t (offer p v (standing stage (frame_of q.frame) (callers_of q.callers.items)))
    → IsReady b n t (offer p v (process_of q))
ready_at p v n t q stage b is h =
    subst (λ s. IsReady b n t (offer p v (standing s (frame_of q.frame) (callers_of q.callers.items)))) (sym is) h

-- a process before a statement or an end
pub before_ready : (rests : Bool) (n : ℕ) (t : Table) (o : Offer) → HasWaiters t
    → MatchBool rests (o ≡ Rests) (IsFree o)
    → IsReady (not rests) n t o
before_ready true n t o has h = rests_never n t o h
before_ready false n t o has h = free_moves n t o has h

-- a value is there, or a fault
pub has_value : (r : Result ℤ Fault) (e : Evaluated) → evaluation_of r ≡ e
    → MatchBool (is_ok r) ((z : ℤ) × (e ≡ Value z)) ((fault : Fault) × (e ≡ Fails fault))
has_value (Ok z) e is = (z, sym is)
has_value (Err fault) e is = (fault, sym is)

pub dying_free : (p : Program) (v : Variables) (cause : Cause) (ms : List ℕ) → IsFree (offer p v (Dying cause ms))
dying_free p v cause [] = tt
dying_free p v cause (m ∷ ms) = tt
