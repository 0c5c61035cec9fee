-- All actions that are deferred may be taken, process by process.
use Rattle.std.proofs.Common.{◌≡◌, ℕ, zero, suc, List, [], ◌∷◌, Option, Some, None, refl}
use Rattle.std.proofs.Common.{subst, arith, inl, inr}
use Rattle.std.proofs.lemmas.Bool.{cases_eq, cases_lt}
use Rattle.locals.specs.Threads.{Thread}
use Rattle.machine.specs.States.{State}
use Rattle.program.specs.Trees.{Program}
use Rattle.program.specs.WellFormed.{WellFormed}
use Rattle.meaning.specs.Labels.{Action, Kind}
use Rattle.meaning.specs.Processes.{Process}
use Rattle.meaning.specs.Runs.{Leads}
use Rattle.meaning.specs.States.{SourceState}
use Rattle.proof_commutation.specs.Deferring.{LeadsDeferredAt}
use Rattle.proof_commutation.specs.Placed.{actions_of, actions_up_to}
use Rattle.proof_commutation.proofs.Reordering.{Caught, emptied, emptied_above, emptied_below, catch_up_all}
use Rattle.proof_commutation.proofs.Reordering.{same_behind}
use Rattle.proof_commutation.proofs.Deferred.{at_none}
use Rattle.protocol.specs.Points.{Point}
use Rattle.refinement.specs.Built.{build_of}
use Rattle.proof_simulation.specs.Standing.{StandsAt}
use Rattle.proof_simulation.specs.Standing as S
use Rattle.proof_simulation.specs.Corresponding.{Corresponds}
use Rattle.proof_simulation.specs.Tracking.{Tracks}
use Rattle.proof_simulation.proofs.Observing.{number_of}
use Rattle.std.proofs.Common.{length, ◌+◌}
use Rattle.refinement.specs.Pace.{is_action_of}
use Rattle.proof_simulation.specs.Deferred.{AreOwn}
use Rattle.proof_simulation.proofs.Whole.{AllOwn}
use Rattle.proof_simulation.proofs.Paces.{count_by-append}
use Rattle.proof_simulation.proofs.Counting.{count, count_map, of_one, length_taken}
use Rattle.std.proofs.Common.{ap, ◌++◌}

-- as many as are deferred
up_counted : (n : ℕ) (w : ℕ → List Kind) (t : ℕ) → ((u : ℕ) → AreOwn (w u))
    → count t (actions_up_to n w) + length (emptied n w t) ≡ length (w t)
up_counted zero w t own = omega arith
up_counted (suc n) w t own =
    let both = count_by-append (is_action_of t) (actions_up_to n w) (actions_of (suc n) (w (suc n))) in
    let last = count_map (suc n) t (w (suc n)) (own (suc n)) in
    let taken = length_taken (emptied n w) (suc n) t in
    let same = ap (λ (i : List Kind). of_one (suc n) t (length i)) (emptied_above n w (suc n) (omega arith)) in
    let before = up_counted n w t own in
    omega (arith, both, last, taken, same, before)

-- and a process's own, as they are
pub own_both : (xs ys : List Action) → AllOwn xs → AllOwn ys → AllOwn (xs ++ ys)
own_both [] ys h g = g
own_both (x ∷ xs) ys h g = (h.0, own_both xs ys h.1 g)

pub own_of : (t : ℕ) (ks : List Kind) → AreOwn ks → AllOwn (actions_of t ks)
own_of t [] h = tt
own_of t (k ∷ ks) h = (h.0, own_of t ks h.1)

own_up : (n : ℕ) (w : ℕ → List Kind) → ((t : ℕ) → AreOwn (w t)) → AllOwn (actions_up_to n w)
own_up zero w h = tt
own_up (suc n) w h = own_both (actions_up_to n w) (actions_of (suc n) (w (suc n))) (own_up n w h)
    (own_of (suc n) (w (suc n)) (h (suc n)))

module _ (p : Program) (w : WellFormed p) (steps : ℕ) (s : State) (a : SourceState) (r : Tracks p w steps s a) where
  abbrev c : SourceState
  c = r.ahead

  -- a process that wasn't made
  nobody : (u : ℕ) → ((x : Thread) → s.thread u ≡ Some x → ⊥) → c.process u ≡ None
  nobody u none = by_thread (s.thread u) refl
    where
      unmade : (o : Option Thread) (q : Option Process) (pt : Point) (l : List ℕ)
          → StandsAt (build_of p w r.ties.world.made) c.variable u o q pt l → o ≡ None → q ≡ None
      unmade o q pt l S.unmade e = refl
      unmade o q pt l stand e = absurd cc

      by_thread : (o : Option Thread) → s.thread u ≡ o → c.process u ≡ None
      by_thread None e = unmade (s.thread u) (c.process u) (r.ties.world.at u).point (r.ties.world.at u).list
          (r.ties.threads u) e
      by_thread (Some x) e = absurd (none x e)

  caught : Caught p a (actions_up_to s.made r.deferred) (emptied s.made r.deferred) c
  caught = catch_up_all p s.made r.deferred a c r.behind

  empty : (u : ℕ) → emptied s.made r.deferred u ≡ []
  empty u = elim (cases_lt s.made u) [
    | inl past ↦ never (λ x e.
        let number = number_of p w steps s c r.ties u x e in
        let made = r.ties.made in
        omega (arith, past, number.1, made))
    | inr within ↦ elim (cases_eq u 0) [
      | inl e ↦ never (λ x there. let number = number_of p w steps s c r.ties u x there in omega (arith, number.0, e))
      | inr o ↦ emptied_below s.made r.deferred u (omega (arith, o)) (omega (arith, within))
    ]
  ]
    where
      never : ((x : Thread) → s.thread u ≡ Some x → ⊥) → emptied s.made r.deferred u ≡ []
      never none = at_none p u c.variable c.table (emptied s.made r.deferred u) (caught.0.process u)
          (subst (λ (y : Option Process). LeadsDeferredAt p u c.variable c.table (emptied s.made r.deferred u)
          (caught.0.process u) y) (nobody u none) (caught.2.processes u))

  pub finishes : (source : SourceState) × Leads p a (actions_up_to s.made r.deferred) source
      × Corresponds p w steps s source
  finishes = (
    c,
    subst (λ (x : SourceState). Leads p a (actions_up_to s.made r.deferred) x)
        (same_behind p (emptied s.made r.deferred) caught.0 c caught.2 empty) caught.1,
    r.ties,
  )

  pub finishes_counted : (t : ℕ) → count t (actions_up_to s.made r.deferred) ≡ length (r.deferred t)
  finishes_counted t =
      let all = up_counted s.made r.deferred t r.own in
      let none = ap (λ (i : List Kind). length i) (empty t) in
      omega (arith, all, none)

  pub finishes_own : AllOwn (actions_up_to s.made r.deferred)
  finishes_own = own_up s.made r.deferred r.own
