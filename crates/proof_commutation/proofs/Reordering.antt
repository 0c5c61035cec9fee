-- The actions of a run, where those that may be deferred are.
use Rattle.std.proofs.Common.{◌≡◌, ◌≢◌, ℕ, zero, suc, ◌≤◌, ◌<◌, Bool, true, false, List, [], ◌∷◌, ◌++◌, Some}
use Rattle.std.proofs.Common.{None, refl, sym, ap, ◌∙◌, subst, arith, inl, inr, if◌then◌else◌}
use Rattle.std.proofs.lemmas.Bool.{cases_eq, cases_lt}
use Rattle.words.specs.Updates.{put}
use Rattle.program.specs.Trees.{Program}
use Rattle.program.specs.WellFormed.{WellFormed}
use Rattle.meaning.specs.Labels.{Action, Kind}
use Rattle.meaning.specs.Offers.{Nothing}
use Rattle.meaning.specs.States.{SourceState, opening}
use Rattle.meaning.specs.Runs.{IsAction, IsStep, Leads}
use Rattle.meaning.proofs.Unique.{step_once}
use Rattle.meaning.proofs.Ends.{numbered}
use Rattle.meaning.proofs.Led.{leads_more, leads_on}
use Rattle.proof_commutation.specs.Deferring.{LeadsDeferredAt, IsBehind}
use Rattle.proof_commutation.specs.Placed.{Marked, action_of, actions_of, actions_up_to, placed_behind, Defers}
use Rattle.proof_commutation.specs.Placed.{LeadsMarked}
use Rattle.words.proofs.Updates.{at_put, put_same, put_other, put_again, put_itself}
use Rattle.proof_commutation.proofs.Deferred.{at_equal, at_none}
use Rattle.proof_commutation.proofs.Behind.{act, defers_more, takes}
use Rattle.proof_commutation.proofs.Following.{follows, no_zero}

behind_same : (p : Program) (w w' : ℕ → List Kind) (a c : SourceState) → ((u : ℕ) → w u ≡ w' u) → IsBehind p w a c
    → IsBehind p w' a c
behind_same p w w' a c same b = record {
  table = b.table;
  variables = b.variables;
  printed = b.printed;
  processes = λ u. subst (λ ks. LeadsDeferredAt p u c.variable c.table ks (a.process u) (c.process u)) (same u)
      (b.processes u);
}

-- some actions lead from a state to one in which these are deferred still
abbrev pub Caught : Program → SourceState → List Action → (ℕ → List Kind) → SourceState → Type 0
Caught p a actions w c = (a' : SourceState) × Leads p a actions a' × IsBehind p w a' c

-- all that is deferred of a process is done
pub catch_up : (p : Program) (ks : List Kind) (w : ℕ → List Kind) (a c : SourceState) (t : ℕ) → IsBehind p w a c
    → w t ≡ ks → Caught p a (actions_of t ks) (put w t []) c
catch_up p [] w a c t b is = (a, refl, behind_same p w (put w t []) a c (λ u. sym (put_itself w t [] u is)) b)
catch_up p (k ∷ ks) w a c t b is =
    let one : (a' : SourceState) × IsStep p a (act t k) a' × IsBehind p (put w t ks) a' c =
    takes p w a c t k ks b is in
    let rest : Caught p one.0 (actions_of t ks) (put (put w t ks) t []) c =
    catch_up p ks (put w t ks) one.0 c t one.2 (put_same w t ks) in (
      rest.0,
      (one.0, one.1, rest.1),
      behind_same p (put (put w t ks) t []) (put w t []) rest.0 c (put_again w t ks []) rest.2,
    )

-- nothing is deferred of processes 1 to n
abbrev pub emptied : ℕ → (ℕ → List Kind) → ℕ → List Kind
emptied zero w = w
emptied (suc n) w = put (emptied n w) (suc n) []

pub emptied_above : (n : ℕ) (w : ℕ → List Kind) (u : ℕ) → n < u → emptied n w u ≡ w u
emptied_above zero w u past = refl
emptied_above (suc n) w u past =
    put_other (emptied n w) (suc n) [] u (λ e. omega (arith, e, past)) ∙ emptied_above n w u (omega (arith, past))

pub emptied_below : (n : ℕ) (w : ℕ → List Kind) (u : ℕ) → 0 < u → u ≤ n → emptied n w u ≡ []
emptied_below zero w u low high = absurd (omega (arith, low, high))
emptied_below (suc n) w u low high =
    at_put (emptied n w) (suc n) [] u (λ ks. ks ≡ []) (λ e. refl)
    (λ o. emptied_below n w u low (omega (arith, o, high)))

pub catch_up_all : (p : Program) (n : ℕ) (w : ℕ → List Kind) (a c : SourceState) → IsBehind p w a c
    → Caught p a (actions_up_to n w) (emptied n w) c
catch_up_all p zero w a c b = (a, refl, b)
catch_up_all p (suc n) w a c b =
    let before : Caught p a (actions_up_to n w) (emptied n w) c = catch_up_all p n w a c b in
    let last : Caught p before.0 (actions_of (suc n) (w (suc n))) (emptied (suc n) w) c =
    catch_up p (w (suc n)) (emptied n w) before.0 c (suc n) before.2
    (emptied_above n w (suc n) (omega arith)) in
    (last.0, leads_on p a before.0 last.0 (actions_up_to n w) (actions_of (suc n) (w (suc n))) before.1 last.1, last.2)

-- where nothing is deferred the states are one
pub same_behind : (p : Program) (w : ℕ → List Kind) (a c : SourceState) → IsBehind p w a c → ((u : ℕ) → w u ≡ [])
    → a ≡ c
same_behind p w a c b empty = λ i. record {
  table = b.table i;
  variable = b.variables i;
  process = λ u. at u i;
  printed = b.printed i;
}
  where
    at : (u : ℕ) → a.process u ≡ c.process u
    at u = at_equal p u c.variable c.table (a.process u) (c.process u)
        (subst (λ ks. LeadsDeferredAt p u c.variable c.table ks (a.process u) (c.process u)) (empty u) (b.processes u))

module _ (p : Program) (wf : WellFormed p) where
  -- what is deferred at the end leads to the state in which nothing is
  ends : (actions : List Action) (w : ℕ → List Kind) (a s : SourceState) → Leads p (opening p) actions s
      → IsBehind p w a s → Leads p a (actions_up_to s.table.made w) s
  ends actions w a s led b = subst (λ x. Leads p a (actions_up_to s.table.made w) x)
      (same_behind p (emptied s.table.made w) done.0 s done.2 empty) done.1
    where
      done : Caught p a (actions_up_to s.table.made w) (emptied s.table.made w) s
      done = catch_up_all p s.table.made w a s b

      nobody : (u : ℕ) → s.process u ≡ None → emptied s.table.made w u ≡ []
      nobody u is = at_none p u s.variable s.table (emptied s.table.made w u) (done.0.process u)
          (subst (λ y. LeadsDeferredAt p u s.variable s.table (emptied s.table.made w u) (done.0.process u) y) is
          (done.2.processes u))

      made : (u : ℕ) → u ≢ 0 → emptied s.table.made w u ≡ []
      made u o = elim (cases_lt s.table.made u) [
        | inl past ↦ nobody u (numbered p s actions led u past)
        | inr within ↦ emptied_below s.table.made w u (omega (arith, o)) within
      ]

      empty : (u : ℕ) → emptied s.table.made w u ≡ []
      empty u = elim (cases_eq u 0) [
        | inl e ↦ nobody u (ap s.process e ∙ no_zero p s actions led)
        | inr o ↦ made u o
      ]

  -- an action that may be deferred is
  defers : (w : ℕ → List Kind) (a c mid : SourceState) (x : Marked) → IsBehind p w a c
      → IsStep p c (action_of x) mid → Defers p c x
      → IsBehind p (put w x.process (w x.process ++ x.kind ∷ [])) a mid
  defers w a c mid x b step d =
      subst (λ k. IsBehind p (put w x.process (w x.process ++ k ∷ [])) a mid) (sym d.named)
      (defers_more p w a c mid x.process d.before d.after d.label b d.stands d.may (ap (λ s. s.table) same)
      (ap (λ s. s.variable) same) (ap (λ s. s.printed) same) (ap (λ s. s.process) same))
    where
      after : SourceState
      after = record c { process = put c.process x.process (Some d.after) }

      alone : IsAction p c (action_of x) after
      alone = record {
        before = d.before;
        after = d.after;
        label = d.label;
        effect = Nothing;
        stands = d.stands;
        acts = d.may.takes c.variable (λ m held n i. refl);
        named = d.named;
        allows = d.may.allows;
        variables = refl;
        printed = refl;
        processes = refl;
      }

      same : mid ≡ after
      same = step_once p (action_of x) c mid after step (inl alone)

  -- an action that isn't deferred comes behind what is deferred of its process
  comes : (actions : List Action) (w : ℕ → List Kind) (a c mid s : SourceState) (x : Marked) (ys : List Action)
      → Leads p (opening p) actions c → IsBehind p w a c → IsStep p c (action_of x) mid
      → ((a' : SourceState) → IsBehind p (put w x.process []) a' mid → Leads p a' ys s)
      → Leads p a (actions_of x.process (w x.process) ++ action_of x ∷ ys) s
  comes actions w a c mid s x ys led b step rest =
      let caught : Caught p a (actions_of x.process (w x.process)) (put w x.process []) c =
      catch_up p (w x.process) w a c x.process b refl in
      let next : (a' : SourceState) × IsStep p caught.0 (action_of x) a' × IsBehind p (put w x.process []) a' mid =
      follows p wf actions c led (put w x.process []) caught.0 mid x.process x.kind caught.2
      (put_same w x.process []) step in
      leads_on p a caught.0 s (actions_of x.process (w x.process)) (action_of x ∷ ys) caught.1
      (next.0, next.1, rest next.0 next.2)

  either : (mark : Bool) (xs ys : List Action) (a s : SourceState) → (mark ≡ true → Leads p a xs s) → Leads p a ys s
      → Leads p a (if mark then xs else ys) s
  either true xs ys a s later now = later refl
  either false xs ys a s later now = now

  pub placed_leads : (xs : List Marked) (actions : List Action) (w : ℕ → List Kind) (a c s : SourceState)
      → Leads p (opening p) actions c → IsBehind p w a c → LeadsMarked p c xs s
      → Leads p a (placed_behind s.table.made w xs) s
  placed_leads [] actions w a c s led b marked =
      ends actions w a s (subst (λ x. Leads p (opening p) actions x) marked led)
      (subst (λ x. IsBehind p w a x) marked b)
  placed_leads (x ∷ xs) actions w a c s led b marked =
      let more : Leads p (opening p) (actions ++ action_of x ∷ []) marked.0 =
      leads_more p (opening p) c marked.0 actions (action_of x) led marked.1 in
      either x.deferred (placed_behind s.table.made (put w x.process (w x.process ++ x.kind ∷ [])) xs)
      (actions_of x.process (w x.process) ++ action_of x ∷ placed_behind s.table.made (put w x.process []) xs) a s
      (λ is. placed_leads xs (actions ++ action_of x ∷ []) (put w x.process (w x.process ++ x.kind ∷ [])) a marked.0 s
      more (defers w a c marked.0 x b marked.1 (marked.2 is)) marked.3)
      (comes actions w a c marked.0 s x (placed_behind s.table.made (put w x.process []) xs) led b marked.1
      (λ a' b'. placed_leads xs (actions ++ action_of x ∷ []) (put w x.process []) a' marked.0 s more b' marked.3))
