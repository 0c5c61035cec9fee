-- Which steps of an exit are actions, told by the words before the step.
use Rattle.std.proofs.Common.{◌≡◌, ◌≢◌, ◌<◌, ◌≤◌, ◌+◌, ◌==◌, ◌&&◌, ℕ, zero, suc, Bool, true, false, List, [], ◌∷◌}
use Rattle.std.proofs.Common.{Some, None, refl, ap, sym, ◌∙◌, subst, arith, inl, inr}
use Rattle.std.specs.Prelude.{if◌then◌else◌, not, is_some, ◌||◌}
use Rattle.std.proofs.lemmas.Bool.{cases_eq, eq-eqb, ne_eqb, false≢true, or_left, or_right}
use Rattle.words.specs.Process.{process_word}
use Rattle.words.specs.Versions.{most_of}
use Rattle.robustexit.specs.declared.phase.ExitPhase.{ExitPhase}
use Rattle.robustexit.specs.declared.phase.ExitPhase.TheVariants.{Pending}
use Rattle.robustexit.specs.RobustExit.{Shared}
use Rattle.program.specs.Trees.{Program}
use Rattle.program.specs.WellFormed.{WellFormed}
use Rattle.meaning.specs.Labels.{End}
use Rattle.meaning.specs.Table.{Table, HeldBy}
use Rattle.protocol.specs.Word.{owner}
use Rattle.protocol.specs.Points.{NoEntry, Owned, Unowned, Point, Walks, entry_at, entry_word}
use Rattle.protocol.specs.Points.{Entry as Entry'}
use Rattle.protocol.specs.World.{World, mem}
use Rattle.protocol.specs.Cells.{LockOf, LinkOf, PendingOf}
use Rattle.protocol.specs.Exits.{Shares, PhaseIs}
use Rattle.protocol.specs.Memory.{entry_address}
use Rattle.protocol.specs.Carries.{Event}
use Rattle.protocol.specs.Served.{source_event, pending_event}
use Rattle.protocol.proofs.Good.{Good}
use Rattle.protocol.proofs.Pend.{PendAt}
use Rattle.protocol.proofs.Chains.{Chain, ChainAt}
use Rattle.protocol.proofs.Roles.{Listed, Knows, holds, own}
use Rattle.protocol.proofs.Lock.{tie_held, tie_owner}
use Rattle.proof_templates.specs.Layout.{place, valid}
use Rattle.proof_templates.proofs.Layouts.{apart, is_layout, number_is, monitor_valid}
use Rattle.proof_simulation.specs.Ordering.{completes_exit}
use Rattle.proof_simulation.specs.Killing.{IsOfProgram}

module _ (p : Program) (wf : WellFormed p) (s : Shared) (w : World) (T : Table) (t : ℕ) (x : Entry') (end : End)
    (shares : Shares (place p) (valid p) s w) (good : Good w T) (some : 0 < t) (few : t ≤ most_of p.version)
    (of : IsOfProgram p x) where
  -- what the pending word holds
  word_of : (e : ℕ) → (w.at t).point ≡ Walks e x end
      → s.word (process_word t 1) ≡ entry_address (place p) (entry_word x)
  word_of e point = shares.words.word (PendingOf t) (number_is p t some few)
      ∙ ap (entry_address (place p)) (subst (λ (q : Point). PendAt q (w.pending t)) point (good.pends.pend t))

  above : (m : ℕ) → valid p (LinkOf m) ≡ true → place p (LinkOf m) ≢ 0
  above m ok e = let h = (is_layout p wf).entry m ok in omega (arith, h.0, e)

  same_entry : (n m : ℕ) → valid p (LinkOf n) ≡ true → valid p (LinkOf m) ≡ true
      → (place p (LinkOf n) == place p (LinkOf m)) ≡ (n == m)
  same_entry n m a b = elim (cases_eq n m) [
    | inl e ↦ eq-eqb (place p (LinkOf n)) (place p (LinkOf m)) (ap (λ i. place p (LinkOf i)) e) ∙ sym (eq-eqb n m e)
    | inr o ↦ ne_eqb (place p (LinkOf n)) (place p (LinkOf m)) (λ i. o (to (apart p (LinkOf n) (LinkOf m) a b i)))
        ∙ sym (ne_eqb n m o)
  ]
    where
      to : LinkOf n ≡ LinkOf m → n ≡ m
      to h = cc

  -- the entry at which a walk stands is on the list
  first_on : (link : ℕ → ℕ) (m : ℕ) (l : List ℕ) → Chain link (suc m) l → mem m l ≡ true
  first_on link m [] h = absurd (omega (arith, h))
  first_on link m (y ∷ ys) h = or_left (m == y) (mem m ys) (eq-eqb m y (omega (arith, h.0)))

  known : (e : ℕ) → (w.at t).point ≡ Walks e x end → Listed (Walks e x end) (w.at t).list
  unfolding Knows
  known e point = subst (λ (q : Point). Listed q (w.at t).list) point (good.locks.knows t).1

  at_entry : (m seen : ℕ) (r : ℕ) (w' : World) (e' : End) → (w.at t).point ≡ Walks (suc m) x end
      → valid p (LinkOf m) ≡ true
      → not (s.word (process_word t 1) == place p (LinkOf m))
      ≡ is_some (source_event w T t (Walks (suc m) x end) r w' e')
  at_entry m seen r w' e' point ok =
      ap (λ n. not (n == place p (LinkOf m))) (word_of (suc m) point) ∙ by_entry x of (known (suc m) point)
    where
      listed : mem m (w.at t).list ≡ true
      listed = first_on w.link m (w.at t).list
          (subst (λ (q : Point). ChainAt w.link (w.head t) q (w.at t).list) point (good.chains.chain t))

      by_bool : (b : Bool) (a : Event) → not b ≡ is_some (if b then None else Some a)
      by_bool true a = refl
      by_bool false a = refl

      by_entry : (y : Entry') → IsOfProgram p y → Listed (Walks (suc m) y end) (w.at t).list
          → not (entry_address (place p) (entry_word y) == place p (LinkOf m))
          ≡ is_some (source_event w T t (Walks (suc m) y end) r w' e')
      by_entry NoEntry ok' k = ap not (ne_eqb 0 (place p (LinkOf m)) (λ i. above m ok (sym i)))
      by_entry (Owned n) ok' k = ap not (same_entry n m (monitor_valid p n ok') ok) ∙ by_bool (n == m) _
      by_entry (Unowned n) ok' k = ap not (same_entry n m (monitor_valid p n ok') ok
          ∙ ne_eqb n m (λ i. false≢true (sym k ∙ ap (λ j. mem j (w.at t).list) i ∙ listed)))

  at_pending : (r : ℕ) (w' : World) (e' : End) → (w.at t).point ≡ Walks 0 x end
      → completes_exit s.word t Pending ≡ is_some (source_event w T t (Walks 0 x end) r w' e')
  unfolding holds
  at_pending r w' e' point =
      ap (λ n. not (n == 0) && (owner (s.word (n + 1)) == t)) (word_of 0 point)
      ∙ by_entry x of point (known 0 point)
    where
      lock_word : (n : ℕ) → valid p (LinkOf n) ≡ true → s.word (place p (LinkOf n) + 1) ≡ w.lock n
      lock_word n ok = shares.words.word (LockOf n) ok

      by_entry : (y : Entry') → IsOfProgram p y → (w.at t).point ≡ Walks 0 y end
          → Listed (Walks 0 y end) (w.at t).list
          → (not (entry_address (place p) (entry_word y) == 0)
          && (owner (s.word (entry_address (place p) (entry_word y) + 1)) == t)) ≡ is_some (pending_event t y)
      by_entry NoEntry ok at k = refl
      by_entry (Owned n) below at k =
          let ok = monitor_valid p n below in
          let held = good.locks.held n t (ap (λ (q : Point). mem n (w.at t).list || own (entry_at q) n) at
          ∙ or_right (mem n (w.at t).list) (n == n) (eq-eqb n n refl)) in
          let tied = tie_held (T.hold n) (w.lock n) t (good.locks.tie n) held in
          ap (λ b. not b && (owner (s.word (place p (LinkOf n) + 1)) == t))
          (ne_eqb (place p (LinkOf n)) 0 (above n ok))
          ∙ ap (λ v. owner v == t) (lock_word n ok) ∙ eq-eqb (owner (w.lock n)) t tied.0
      by_entry (Unowned n) below at k =
          let ok = monitor_valid p n below in
          ap (λ b. not b && (owner (s.word (place p (LinkOf n) + 1)) == t))
          (ne_eqb (place p (LinkOf n)) 0 (above n ok))
          ∙ ap (λ v. owner v == t) (lock_word n ok) ∙ ne_eqb (owner (w.lock n)) t (λ e.
          let hold = tie_owner (T.hold n) (w.lock n) (good.locks.tie n) (λ z. omega (arith, some, e, z)) in
          let has = good.locks.owned n t (hold ∙ ap HeldBy e) in
          false≢true (sym (ap (λ (q : Point). mem n (w.at t).list || own (entry_at q) n) at ∙ none (mem n
          (w.at t).list) k) ∙ has))
        where
          none : (b : Bool) → b ≡ false → (b || false) ≡ false
          none b h = ap (λ i. i || false) h

  -- a step of an exit is an action just where the protocol's is
  pub exit_told : (e : ℕ) (phase : ExitPhase) (r : ℕ) (w' : World) (e' : End) → (w.at t).point ≡ Walks e x end
      → PhaseIs (place p) (valid p) (Walks e x end) phase
      → completes_exit s.word t phase ≡ is_some (source_event w T t (Walks e x end) r w' e')
  exit_told zero phase r w' e' point is =
      ap (completes_exit s.word t) is ∙ at_pending r w' e' point
  exit_told (suc m) phase r w' e' point is =
      ap (completes_exit s.word t) is.1.1 ∙ at_entry m is.1.0 r w' e' point is.0
