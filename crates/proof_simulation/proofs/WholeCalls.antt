-- A step of the machine is one with whole calls.
use Rattle.std.proofs.Common.{◌≡◌, ℕ, Bool, List, Option, inl, inr, refl}
use Rattle.robustexit.specs.declared.rule.ExitRule.{ExitRule}
use Rattle.robustexit.specs.ExitRules.{exit_of}
use Rattle.locals.specs.Looks.{Request, AskRequeue, Look, Goes, Asks, Leaves, Breaks, Rests, look}
use Rattle.machine.specs.States.{State}
use Rattle.machine.specs.AbstractServing.{Serves}
use Rattle.machine.specs.Runs.{Doing, Own, Strayed, Killed, Step, Moves, IsOwnStep, IsDone}
use Rattle.program.specs.Trees.{Program}
use Rattle.lowering.specs.Pieces.{code_of}
use Rattle.lowering.specs.declared.mark.Mark.{Mark}
use Rattle.meaning.specs.Labels.{Kind}
use Rattle.proof_thread.specs.Deferrals.{deferred_by_step}
use Rattle.proof_pieces.specs.WholeCalls.{ServesWhole, MovesWhole, IsWholeStep, IsWholeDone}
use Rattle.proof_simulation.specs.Ordering.{StepsSo, StepsWhole, raises_number}
use Rattle.proof_simulation.specs.Progress.{answer_in, answer_whole, visible_step}

pub serves_whole : (t : ℕ) (request : Request) (s : State) (woken : List ℕ) (answer : ℕ) (s' : State)
    → Serves t request s woken answer s' → ServesWhole t request s woken answer s'
serves_whole t (AskRequeue a b n m expected) s woken answer s' h = (
  h.0,
  h.1,
  elim h.2 [
    | inl g ↦ inl (g.0, g.1, record { wakes = g.2.wakes; moves = g.2.moves }, g.3, g.4)
    | inr g ↦ inr g
  ],
)
serves_whole t request s woken answer s' h = h

pub steps_whole : (p : Program) (done raises : Bool) (deferral : Option Kind) (mark : Option Mark) (s : State) (t : ℕ)
    (woken : List ℕ) (l : Look) (s' : State) → StepsSo p done raises deferral mark s t woken l s'
    → StepsWhole p done raises deferral mark s t woken l s'
steps_whole p done raises deferral mark s t woken (Asks request go) s' g =
    (g.0, g.1, serves_whole t request s woken g.0 g.1 g.2, g.3, g.4, g.5, g.6)
steps_whole p done raises deferral mark s t woken other s' g = g

abbrev pub moves_whole : (rule : ExitRule) → (s : State) → (t : ℕ) → (woken : List ℕ) → (l : Look) → (s' : State)
    → Moves rule s t woken l s' → MovesWhole rule s t woken l s'
moves_whole rule s t woken (Goes x) s' g = g
moves_whole rule s t woken (Asks request go) s' g = (g.0, g.1, serves_whole t request s woken g.0 g.1 g.2, g.3)
moves_whole rule s t woken (Leaves phase) s' g = g
moves_whole rule s t woken Breaks s' g = g
moves_whole rule s t woken Rests s' g = g

abbrev pub whole_own : (p : Program) → (s : State) → (l : Step) → (s' : State) → IsOwnStep (code_of p) s l s'
    → IsWholeStep (code_of p) s l.thread l.woken s'
whole_own p s l s' st = record {
  thread = st.thread;
  stands = st.stands;
  awake = st.awake;
  moves = moves_whole (exit_of p.version) s l.thread l.woken (look (code_of p) l.thread st.thread) s' st.moves;
}

abbrev pub whole_done : (p : Program) → (s : State) → (l : Step) → (s' : State) → (d : Doing)
    → IsDone (code_of p) s l s' d → IsWholeDone (code_of p) s l s' d
whole_done p s l s' Own st = whole_own p s l s' st
whole_done p s l s' (Strayed a) st = st
whole_done p s l s' (Killed begins) st = st

-- it asks the same, and has the same answer
pub answer_same : (rule : ExitRule) (s s' : State) (t : ℕ) (woken : List ℕ) (l : Look) (g : Moves rule s t woken l s')
    → answer_whole rule s s' t woken l (moves_whole rule s t woken l s' g) ≡ answer_in rule s s' t woken l g
answer_same rule s s' t woken (Goes x) g = refl
answer_same rule s s' t woken (Asks request go) g = refl
answer_same rule s s' t woken (Leaves phase) g = refl
answer_same rule s s' t woken Breaks g = refl
answer_same rule s s' t woken Rests g = refl

-- what a step with whole calls does, with whether others learn of it and the action that waits
pub whole_so : (p : Program) (mark : Option Mark) (s s' : State) (t : ℕ) (woken : List ℕ) (l : Look)
    (g : MovesWhole (exit_of p.version) s t woken l s')
    → StepsWhole p (visible_step p s.word t l (answer_whole (exit_of p.version) s s' t woken l g)) (raises_number l)
    (deferred_by_step mark l (answer_whole (exit_of p.version) s s' t woken l g)) mark s t woken l s'
whole_so p mark s s' t woken (Goes x) g = (g.0, g.1, refl, refl, refl)
whole_so p mark s s' t woken (Asks request go) g = (g.0, g.1, g.2, g.3, refl, refl, refl)
whole_so p mark s s' t woken (Leaves phase) g = (g.0, g.1, g.2, g.3, refl, refl, refl)
whole_so p mark s s' t woken Breaks g = absurd g
whole_so p mark s s' t woken Rests g = absurd g
