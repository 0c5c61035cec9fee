-- From each state that a run leads to calm actions lead to one that a search keeps, where the search is complete.
use Rattle.std.proofs.Common.{false, ◌≡◌, ◌⊎◌, ℕ, zero, suc, List, Contains, [], ◌∷◌, ◌++◌, length, refl, sym, ◌∙◌, subst}
use Rattle.std.proofs.Common.{inl, inr, arith}
use Rattle.program.specs.Trees.{Program}
use Rattle.program.specs.WellFormed.{WellFormed}
use Rattle.meaning.specs.Labels.{Action}
use Rattle.meaning.specs.States.{SourceState, opening}
use Rattle.meaning.specs.Runs.{IsAction, Leads}
use Rattle.meaning.proofs.Led.{leads_more}
use Rattle.proof_commutation.proofs.Behind.{act}
use Rattle.proof_exploration.specs.Exploring.{IsCalm, IsLike, LeadsAlone}
use Rattle.proof_exploration.specs.Searching.{IsKept, IsCovered, IsExpanded}
use Rattle.proof_exploration.proofs.Front.{Idle, Busy, front}
use Rattle.proof_exploration.proofs.Representing.{kept_next, like_kept}
use Rattle.proof_exploration.proofs.Alike.{like_action, like_after, printing}

-- calm actions of processes' own lead from a state to another
abbrev pub LeadsCalmly : Program → SourceState → List Action → SourceState → Type 0
LeadsCalmly p s [] s' = s ≡ s'
LeadsCalmly p s (a ∷ actions) s' =
    (mid : SourceState) × (x : IsAction p s a mid) × IsCalm x.label × LeadsCalmly p mid actions s'

pub calm_alone : (p : Program) (s s' : SourceState) (actions : List Action) → LeadsCalmly p s actions s'
    → LeadsAlone p s actions s'
calm_alone p s s' [] led = led
calm_alone p s s' (a ∷ actions) led = (led.0, led.1, calm_alone p led.0 s' actions led.3)

like_calmly : (p : Program) (actions : List Action) (s r e : SourceState) → IsLike s r → LeadsCalmly p s actions e
    → (e' : SourceState) × LeadsCalmly p r actions e' × IsLike e e'
unfolding like_action
like_calmly p [] s r e like led = (r, refl, subst (λ x. IsLike x r) led like)
like_calmly p (a ∷ actions) s r e like led =
    let next : (e' : SourceState) × LeadsCalmly p (printing p s r like a led.0 led.1) actions e' × IsLike e e' =
    like_calmly p actions led.0 (printing p s r like a led.0 led.1) e (like_after p s r like a led.0 led.1) led.3 in (
      next.0,
      (printing p s r like a led.0 led.1, like_action p s r like a led.0 led.1, led.2, next.1),
      next.2,
    )

-- calm actions lead to a state that is kept
abbrev pub Arrives : Program → List SourceState → SourceState → Type 0
Arrives p kept e = (more : List Action) × (r : SourceState) × LeadsCalmly p e more r × IsKept kept r

arrives_like : (p : Program) (kept : List SourceState) (e e' : SourceState) → IsLike e e' → Arrives p kept e
    → Arrives p kept e'
arrives_like p kept e e' like is =
    let moved : (r : SourceState) × LeadsCalmly p e' is.0 r × IsLike is.1 r =
    like_calmly p is.0 e e' is.1 like is.2 in
    (is.0, moved.0, moved.1, like_kept p kept is.1 moved.0 moved.2 is.3)

module _ (p : Program) (wf : WellFormed p) (kept : List SourceState)
    (expanded : (s : SourceState) → Contains kept s → IsExpanded p kept s) where
  abbrev Fewer : ℕ → Type 0
  Fewer n = (k : ℕ) (actions done : List Action) (s e : SourceState) → length actions ≡ n
      → Leads p (opening p) done s → IsCovered p kept k s → LeadsAlone p s actions e → Arrives p kept e

  -- runs of so many actions, from a kept state
  abbrev FromKept : ℕ → Type 0
  FromKept n = (actions done : List Action) (s e : SourceState) → length actions ≡ n
      → Leads p (opening p) done s → IsKept kept s → LeadsAlone p s actions e → Arrives p kept e

  one_less : (m n : ℕ) → suc m ≡ suc n → m ≡ n
  one_less m n e = omega (arith, e)

  kept_none : FromKept zero
  kept_none [] done s e long run is led = ([], e, refl, subst (λ r. IsKept kept r) led is)
  kept_none (b ∷ actions) done s e long run is led = absurd (omega (arith, long))

  kept_more : (n : ℕ) → Fewer n → FromKept (suc n)
  kept_more n fewer [] done s e long run is led = absurd (omega (arith, long))
  kept_more n fewer (b ∷ actions) done s e long run is led =
      let next : (k : ℕ) × IsCovered p kept k led.0 = kept_next p kept false expanded s is b led.0 led.1 in
      fewer next.0 actions (done ++ b ∷ []) led.0 e (one_less (length actions) n long)
      (leads_more p (opening p) s led.0 done b run (inl led.1)) next.1 led.2

  -- runs of n actions, where those of fewer are done
  abbrev Chained : ℕ → ℕ → Type 0
  Chained n k = (actions done : List Action) (s e : SourceState) → length actions ≡ n
      → Leads p (opening p) done s → IsCovered p kept k s → LeadsAlone p s actions e → Arrives p kept e

  module _ (n : ℕ) (fewer : (m : ℕ) → suc m ≡ n → Fewer m) (from : FromKept n) where
    step : (k : ℕ) → Chained n k → Chained n (suc k)
    step k chained actions done s e long run (inl is) led = from actions done s e long run is led
    step k chained actions done s e long run (inr (t, calm, all)) led =
        by_front (front p wf false actions done s t calm.kind calm.after e run calm.moves calm.calm led)
      where
        by_front : Idle p false t calm.kind calm.after actions e ⊎ Busy p false t s actions e → Arrives p kept e
        by_front (inl idle) =
            let behind : Arrives p kept (idle.later).0 =
            chained actions (done ++ act t calm.kind ∷ []) calm.after (idle.later).0 long
            (leads_more p (opening p) s calm.after done (act t calm.kind) run (inl calm.moves))
            (all calm.kind calm.after calm.moves) (idle.later).1 in
            let after : Arrives p kept idle.after =
            arrives_like p kept (idle.later).0 idle.after (idle.later).2 behind in
            (act t calm.kind ∷ after.0, after.1, (idle.after, idle.moves, idle.calm, after.2), after.3)
        by_front (inr busy) =
            arrives_like p kept (busy.later).0 e (busy.later).2
            (fewer (length busy.rest) (sym busy.shorter ∙ long) k busy.rest (done ++ act t busy.kind ∷ []) busy.next
            (busy.later).0 refl
            (leads_more p (opening p) s busy.next done (act t busy.kind) run (inl busy.moves))
            (all busy.kind busy.next busy.moves) (busy.later).1)

    chain : (k : ℕ) → Chained n k
    chain zero actions done s e long run is led = from actions done s e long run is led
    chain (suc k) actions done s e long run is led = step k (chain k) actions done s e long run is led

  none_shorter : (m : ℕ) → suc m ≡ zero → Fewer m
  none_shorter m e = absurd (omega (arith, e))

  one_shorter : (n : ℕ) → Fewer n → (m : ℕ) → suc m ≡ suc n → Fewer m
  one_shorter n fewer m e = subst Fewer (one_less n m (sym e)) fewer

  all_runs : (n : ℕ) → Fewer n
  all_runs zero = chain zero none_shorter kept_none
  all_runs (suc n) = chain (suc n) (one_shorter n (all_runs n)) (kept_more n (all_runs n))

  pub arrives : (actions done : List Action) (s e : SourceState) → Leads p (opening p) done s
      → (n : ℕ) × IsCovered p kept n s → LeadsAlone p s actions e → Arrives p kept e
  arrives actions done s e run covered led =
      all_runs (length actions) covered.0 actions done s e refl run covered.1 led
