-- A search that is complete has seen all ends.
use Rattle.std.proofs.Common.{◌≡◌, ◌⊎◌, ℕ, zero, suc, Bool, false, List, Contains, [], ◌∷◌, ◌++◌, length, refl, sym, ◌∙◌}
use Rattle.std.proofs.Common.{subst, inl, inr, arith}
use Rattle.program.specs.Trees.{Program}
use Rattle.program.specs.WellFormed.{WellFormed}
use Rattle.meaning.specs.Labels.{Action, Aborted}
use Rattle.meaning.specs.States.{SourceState, opening}
use Rattle.meaning.specs.Runs.{IsAction, Leads}
use Rattle.meaning.proofs.Ends.{over_in_runs}
use Rattle.meaning.proofs.Led.{leads_more}
use Rattle.proof_commutation.proofs.Behind.{act}
use Rattle.proof_exploration.specs.Exploring.{IsLike, IsStuck, HasAborted, LeadsAlone, LeadsBy}
use Rattle.proof_exploration.specs.Searching.{IsKept, IsCovered, IsComplete}
use Rattle.proof_exploration.proofs.Front.{Idle, Busy, front}
use Rattle.proof_exploration.proofs.Turns.{turn_run, turns_run}
use Rattle.proof_exploration.proofs.Representing.{kept_next}
use Rattle.proof_exploration.proofs.Alike.{like_back, like_stuck, like_aborted}

pub alone_leads : (p : Program) (s s' : SourceState) (actions : List Action) → LeadsAlone p s actions s'
    → Leads p s actions s'
alone_leads p s s' [] led = led
alone_leads p s s' (a ∷ actions) led = (led.0, inl led.1, alone_leads p led.0 s' actions led.2)

pub alone_more : (p : Program) (s s' t : SourceState) (actions : List Action) (a : Action) → LeadsAlone p s actions s'
    → IsAction p s' a t → LeadsAlone p s (actions ++ a ∷ []) t
alone_more p s s' t [] a led step = (t, subst (λ x. IsAction p x a t) (sym led) step, refl)
alone_more p s s' t (b ∷ bs) a led step = (led.0, led.1, alone_more p led.0 s' t bs a led.2 step)

-- what is looked for
pub data Fault : Type 0 where
  Stuck : Fault
  HasFailed : Fault

abbrev pub IsBad : Program → Fault → SourceState → Type 0
IsBad p Stuck s = IsStuck p s
IsBad p HasFailed s = HasAborted s

like_bad : (p : Program) (f : Fault) (s r : SourceState) → IsLike s r → IsBad p f s → IsBad p f r
like_bad p Stuck s r like bad = like_stuck p s r like bad
like_bad p HasFailed s r like bad = like_aborted s r like bad

module _ (p : Program) (wf : WellFormed p) (strays : Bool) (f : Fault) (kept : List SourceState)
    (complete : IsComplete p strays kept) (tested : (s : SourceState) → Contains kept s → IsBad p f s → ⊥) where
  unbad : (s : SourceState) → IsKept kept s → IsBad p f s → ⊥
  unbad s is bad = tested is.0 is.1 (like_bad p f s is.0 (like_back is.0 s is.2) bad)

  -- what is bad stays bad where an action is possible
  bad_after : (g : Fault) (done : List Action) (e e' : SourceState) (a : Action) → Leads p (opening p) done e
      → IsAction p e a e' → IsBad p g e → IsBad p g e'
  bad_after Stuck done e e' a run x bad =
      absurd (bad.rests a.process (record { kind = a.kind; after = e'; moves = x }))
  bad_after HasFailed done e e' a run x bad =
      (bad.0, bad.1, over_in_runs p done a e e' bad.0 (Aborted bad.1) run (inl x) bad.2)

  abbrev Fewer : ℕ → Type 0
  Fewer n = (k : ℕ) (actions done : List Action) (s e : SourceState) → length actions ≡ n
      → Leads p (opening p) done s → IsCovered p kept k s → LeadsBy p strays s actions e → IsBad p f e → ⊥

  -- runs of so many turns, from a kept state
  abbrev FromKept : ℕ → Type 0
  FromKept n = (actions done : List Action) (s e : SourceState) → length actions ≡ n
      → Leads p (opening p) done s → IsKept kept s → LeadsBy p strays s actions e → IsBad p f e → ⊥

  one_less : (m n : ℕ) → suc m ≡ suc n → m ≡ n
  one_less m n e = omega (arith, e)

  kept_none : FromKept zero
  kept_none [] done s e long run is led bad =
      unbad e (subst (λ r. IsKept kept r) led is) bad
  kept_none (b ∷ actions) done s e long run is led bad = absurd (omega (arith, long))

  kept_more : (n : ℕ) → Fewer n → FromKept (suc n)
  kept_more n fewer [] done s e long run is led bad = absurd (omega (arith, long))
  kept_more n fewer (b ∷ actions) done s e long run is led bad =
      let next : (k : ℕ) × IsCovered p kept k led.0 = kept_next p kept strays complete.expanded s is b led.0 led.1 in
      let on : (more : List Action) × Leads p (opening p) more led.0 =
      turn_run p wf strays done s run b led.0 led.1 in
      fewer next.0 actions on.0 led.0 e (one_less (length actions) n long) on.1 next.1 led.2 bad

  -- runs of n turns, where those of fewer are done
  abbrev Chained : ℕ → ℕ → Type 0
  Chained n k = (actions done : List Action) (s e : SourceState) → length actions ≡ n
      → Leads p (opening p) done s → IsCovered p kept k s → LeadsBy p strays s actions e → IsBad p f e → ⊥

  module _ (n : ℕ) (fewer : (m : ℕ) → suc m ≡ n → Fewer m) (from : FromKept n) where
    step : (k : ℕ) → Chained n k → Chained n (suc k)
    step k chained actions done s e long run (inl is) led bad = from actions done s e long run is led bad
    step k chained actions done s e long run (inr (t, calm, all)) led bad =
        by_front (front p wf strays actions done s t calm.kind calm.after e run calm.moves calm.calm led)
      where
        by_front : Idle p strays t calm.kind calm.after actions e ⊎ Busy p strays t s actions e → ⊥
        by_front (inl idle) =
            let on : (more : List Action) × Leads p (opening p) more e =
            turns_run p wf strays actions done s e run led in
            chained actions (done ++ act t calm.kind ∷ []) calm.after (idle.later).0 long
            (leads_more p (opening p) s calm.after done (act t calm.kind) run (inl calm.moves))
            (all calm.kind calm.after calm.moves) (idle.later).1
            (like_bad p f idle.after (idle.later).0 (like_back (idle.later).0 idle.after (idle.later).2)
            (bad_after f on.0 e idle.after (act t calm.kind) on.1 idle.moves bad))
        by_front (inr busy) =
            fewer (length busy.rest) (sym busy.shorter ∙ long) k busy.rest (done ++ act t busy.kind ∷ []) busy.next
            (busy.later).0 refl
            (leads_more p (opening p) s busy.next done (act t busy.kind) run (inl busy.moves))
            (all busy.kind busy.next busy.moves) (busy.later).1
            (like_bad p f e (busy.later).0 (like_back (busy.later).0 e (busy.later).2) bad)

    chain : (k : ℕ) → Chained n k
    chain zero actions done s e long run is led bad = from actions done s e long run is led bad
    chain (suc k) actions done s e long run is led bad = step k (chain k) actions done s e long run is led bad

  none_shorter : (m : ℕ) → suc m ≡ zero → Fewer m
  none_shorter m e = absurd (omega (arith, e))

  one_shorter : (n : ℕ) → Fewer n → (m : ℕ) → suc m ≡ suc n → Fewer m
  one_shorter n fewer m e = subst Fewer (one_less n m (sym e)) fewer

  all_runs : (n : ℕ) → Fewer n
  all_runs zero = chain zero none_shorter kept_none
  all_runs (suc n) = chain (suc n) (one_shorter n (all_runs n)) (kept_more n (all_runs n))

  pub nowhere : (actions : List Action) (s : SourceState) → LeadsBy p strays (opening p) actions s → IsBad p f s → ⊥
  nowhere actions s led bad =
      all_runs (length actions) (complete.opens).0 actions [] (opening p) s refl refl (complete.opens).1 led bad

pub never_stuck : (p : Program) (kept : List SourceState) → WellFormed p → IsComplete p false kept
    → ((s : SourceState) → Contains kept s → IsStuck p s → ⊥)
    → (actions : List Action) (s : SourceState) → LeadsAlone p (opening p) actions s → IsStuck p s → ⊥
never_stuck p kept wf complete tested = nowhere p wf false Stuck kept complete tested

pub never_aborted : (p : Program) (kept : List SourceState) → WellFormed p → IsComplete p false kept
    → ((s : SourceState) → Contains kept s → HasAborted s → ⊥)
    → (actions : List Action) (s : SourceState) → LeadsAlone p (opening p) actions s → HasAborted s → ⊥
never_aborted p kept wf complete tested = nowhere p wf false HasFailed kept complete tested
