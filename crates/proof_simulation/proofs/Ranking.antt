-- Inside a template each step that carries nothing, and after which the thread doesn't sleep, leaves fewer steps.
use Rattle.std.proofs.Common.{◌≡◌, ◌≢◌, ℕ, ◌+◌, ◌<◌, ◌==◌, Bool, true, false, List, Option, Some, None, refl, ap, sym}
use Rattle.std.proofs.Common.{◌∙◌, arith, inl, inr}
use Rattle.std.proofs.Common.{◌≤◌}
use Rattle.std.specs.Prelude.{if◌then◌else◌}
use Rattle.locals.specs.Threads.{Thread}
use Rattle.locals.specs.Looks.{Look, Goes, Asks}
use Rattle.std.proofs.lemmas.Bool.{cond-true, cond-false, eq-eqb, ne_eqb, eqb-true}
use Rattle.meaning.specs.Labels.{End}
use Rattle.meaning.specs.Table.{Table}
use Rattle.protocol.specs.Word.{owner, with_waiters}
use Rattle.protocol.specs.Points.{ToEnter, ToReenter, ToExit, ToWait, Spot, OnLock, OnSequence, Point, Unmade, Runs}
use Rattle.protocol.specs.Points.{EnterPends, EnterTries, ReenterPends, ReenterTries, TakeReads, TakeMarks, TakeSleeps}
use Rattle.protocol.specs.Points.{TakeTries, GotReads, GotLinks, GotHeads, GotUnpends, WaitReads, NotifyAdds}
use Rattle.protocol.specs.Points.{NotifyWakes, BroadcastAdds, BroadcastMarks, BroadcastReads, BroadcastMoves, JoinReads}
use Rattle.protocol.specs.Points.{JoinSleeps, JoinLearns, JoinTakes, MeetsClaimed, LeavePends, LeaveReads, LeaveHeads}
use Rattle.protocol.specs.Points.{LeaveSwaps, LeaveLoads, LeaveKeeps, LeaveClears, LeaveWakes, HasLeft, Dies, Walks}
use Rattle.protocol.specs.Points.{ClearsId, LastWakes, HasEnded}
use Rattle.protocol.specs.World.{World}
use Rattle.protocol.specs.Steps.{go_list}
use Rattle.protocol.specs.Carries.{Event}
use Rattle.protocol.specs.Requests.{request}
use Rattle.protocol.specs.Answers.{Serves, next}
use Rattle.protocol.specs.Served.{MayAnswer, source_event}
use Rattle.words.proofs.Updates.{put_same}
use Rattle.proof_simulation.specs.Ranks.{rank}
use Rattle.protocol.specs.Rules.{ReleaseRule}

-- a point of a template of monitors and conditions
abbrev pub IsTemplate : Point → Type 0
IsTemplate Unmade = ⊥
IsTemplate Runs = ⊥
IsTemplate (JoinReads q) = ⊥
IsTemplate (JoinSleeps q) = ⊥
IsTemplate (JoinLearns q end) = ⊥
IsTemplate (JoinTakes q end) = ⊥
IsTemplate (MeetsClaimed q) = ⊥
IsTemplate (Dies cause x) = ⊥
IsTemplate (Walks e x end) = ⊥
IsTemplate (ClearsId end) = ⊥
IsTemplate (LastWakes end) = ⊥
IsTemplate (HasEnded end) = ⊥
IsTemplate pt = Unit {0}

fresh : (v r a b : ℕ) → v ≡ r → (if v == r then a else b) ≡ a
fresh v r a b e = cond-true (v == r) a b (eq-eqb v r e)

stale : (v r a b : ℕ) → v ≢ r → (if v == r then a else b) ≡ b
stale v r a b e = cond-false (v == r) a b (ne_eqb v r e)

-- one of two points
chosen : (P : Point → Type 0) (b : Bool) (x y : Point) → (b ≡ true → P x) → (b ≡ false → P y)
    → P (if b then x else y)
chosen P true x y h g = h refl
chosen P false x y h g = g refl

none_chosen : (b : Bool) (e : Event) → (if b then Some e else None) ≡ None → b ≡ false
none_chosen true e h = absurd cc
none_chosen false e h = refl

slept : (asleep : Option Spot) (x : Spot) → asleep ≡ Some x → asleep ≡ None → ⊥
slept asleep x h g = absurd (cc (h, g))

-- the pieces of a point's call before its last
abbrev pub spare_at : Point → ℕ
spare_at (TakeSleeps m v k) = 3
spare_at (HasLeft m (ToWait c s)) = 3
spare_at (LeaveWakes m k) = 3
spare_at (NotifyWakes c) = 3
spare_at (BroadcastMoves c s) = 3
spare_at (JoinSleeps q) = 3
spare_at pt = 0

-- as many for a step that asks, and none for another
abbrev pub spare_step : Look → Point → ℕ
spare_step (Asks request go) pt = spare_at pt
spare_step l pt = 0

pub spare_none : (l : Look) (pt : Point) → spare_at pt ≡ 0 → spare_step l pt ≡ 0
spare_none (Asks request go) pt h = h
spare_none l pt h = refl

pub spare_most : (l : Look) (pt : Point) → spare_step l pt ≤ spare_at pt
spare_most (Asks request go) pt = omega arith
spare_most l pt = omega arith

pub spare_goes : (l : Look) (x : Thread) (pt : Point) → l ≡ Goes x → spare_step l pt ≡ 0
spare_goes l x pt h = ap (λ m. spare_step m pt) h

module _ (more : ℕ) (w : World) (T : Table) (t r : ℕ) (w' : World) (e : End) (p : Point) (l : List ℕ)
    (awake : w'.asleep t ≡ None) where
  abbrev after : World
  after = go_list w' t p l

  abbrev Falls : ℕ → ℕ → Point → Type 0
  Falls extra n to = rank more after to + 12 + extra < n

  pub rank_falls : (u : ReleaseRule) (pt : Point) → IsTemplate pt → Serves w t pt (request u t pt) r w' → MayAnswer pt r
      → source_event w T t pt r w' e ≡ None → next w e pt r ≢ Runs
      → Falls (spare_at pt) (rank more w pt) (next w e pt r)
  rank_falls u Unmade is serves may none on = absurd is
  rank_falls u Runs is serves may none on = absurd is
  rank_falls u (EnterPends m) is serves may none on = omega arith
  rank_falls u (EnterTries m) is serves may none on =
      let b = none_chosen (r == 0) _ none in
      chosen (Falls 0 52) (r == 0) (GotReads m 0) (TakeReads m ToEnter) (λ h. absurd (cc (h, b))) (λ h. omega arith)
  rank_falls u (ReenterPends m) is serves may none on = omega arith
  rank_falls u (ReenterTries m) is serves may none on =
      chosen (Falls 0 52) (r == 0) (GotReads m 0) (TakeReads m ToReenter) (λ h. absurd (may (eqb-true r 0 h)))
      (λ h. omega arith)
  rank_falls u (TakeReads m k) is serves may none on =
      let same : w'.lock m ≡ r = ap (λ (x : World). x.lock m) serves.1 ∙ sym serves.0 in
      chosen (Falls 0 35) (owner r == 0) (TakeTries m r k) (TakeMarks m r k)
      (λ h. let x = fresh (w'.lock m) r 4 52 same in omega (arith, x))
      (λ h. let x = fresh (w'.lock m) r 18 52 same in omega (arith, x))
  rank_falls u (TakeMarks m v k) is serves may none on = elim serves.1 [
    | inl z ↦
        let now : w'.lock m ≡ with_waiters v =
        ap (λ (x : World). x.lock m) z.1 ∙ put_same w.lock m (with_waiters v) in
        let was = fresh (w.lock m) v 18 52 z.0 in
        chosen (Falls 0 (rank more w (TakeMarks m v k))) (r == v) (TakeSleeps m (with_waiters v) k) (TakeReads m k)
        (λ h. let x = fresh (w'.lock m) (with_waiters v) 4 52 now in omega (arith, x, was))
        (λ h. absurd (cc (h, eq-eqb r v (serves.0 ∙ z.0))))
    | inr z ↦
        let was = stale (w.lock m) v 18 52 z.0 in
        chosen (Falls 0 (rank more w (TakeMarks m v k))) (r == v) (TakeSleeps m (with_waiters v) k) (TakeReads m k)
        (λ h. absurd (z.0 (sym serves.0 ∙ eqb-true r v h))) (λ h. omega (arith, was))
  ]
  rank_falls u (TakeSleeps m v k) is serves may none on = elim serves [
    | inl z ↦ absurd (slept (w'.asleep t) (OnLock m)
        (ap (λ (x : World). x.asleep t) z.1 ∙ put_same w.asleep t (Some (OnLock m))) awake)
    | inr z ↦ let was = stale (w.lock m) v 4 52 z.0 in omega (arith, was)
  ]
  rank_falls u (TakeTries m v k) is serves may none on = elim serves.1 [
    | inl z ↦ let b = none_chosen (r == v) _ none in absurd (cc (b, eq-eqb r v (serves.0 ∙ z.0)))
    | inr z ↦
        let was = stale (w.lock m) v 4 52 z.0 in
        chosen (Falls 0 (rank more w (TakeTries m v k))) (r == v) (GotReads m v) (TakeReads m k)
        (λ h. absurd (z.0 (sym serves.0 ∙ eqb-true r v h))) (λ h. omega (arith, was))
  ]
  rank_falls u (GotReads m v) is serves may none on = omega arith
  rank_falls u (GotLinks m v h) is serves may none on = omega arith
  rank_falls u (GotHeads m v) is serves may none on = omega arith
  rank_falls u (GotUnpends m v) is serves may none on = absurd (on refl)
  rank_falls u (WaitReads c) is serves may none on = omega arith
  rank_falls u (NotifyAdds c) is serves may none on = omega arith
  rank_falls u (NotifyWakes c) is serves may none on = absurd cc
  rank_falls u (BroadcastAdds c) is serves may none on = omega arith
  rank_falls u (BroadcastMarks c) is serves may none on = omega arith
  rank_falls u (BroadcastReads c) is serves may none on = omega arith
  rank_falls u (BroadcastMoves c s) is serves may none on = absurd cc
  rank_falls u (JoinReads q) is serves may none on = absurd is
  rank_falls u (JoinSleeps q) is serves may none on = absurd is
  rank_falls u (JoinLearns q end) is serves may none on = absurd is
  rank_falls u (JoinTakes q end) is serves may none on = absurd is
  rank_falls u (MeetsClaimed q) is serves may none on = absurd is
  rank_falls u (LeavePends m k) is serves may none on = omega arith
  rank_falls u (LeaveReads m k) is serves may none on = omega arith
  rank_falls u (LeaveHeads m h k) is serves may none on = omega arith
  rank_falls u (LeaveSwaps m k) is serves may none on = absurd cc
  rank_falls u (LeaveLoads m k) is serves may none on = absurd serves
  rank_falls u (LeaveKeeps m v k) is serves may none on = absurd serves
  rank_falls u (LeaveClears m k) is serves may none on = absurd serves
  rank_falls u (LeaveWakes m ToExit) is serves may none on = omega arith
  rank_falls u (LeaveWakes m (ToWait c s)) is serves may none on = omega arith
  rank_falls u (HasLeft m ToExit) is serves may none on = absurd (on refl)
  rank_falls u (HasLeft m (ToWait c s)) is serves may none on = elim serves [
    | inl z ↦ absurd (slept (w'.asleep t) (OnSequence c)
        (ap (λ (x : World). x.asleep t) z.1 ∙ put_same w.asleep t (Some (OnSequence c))) awake)
    | inr z ↦ omega arith
  ]
  rank_falls u (Dies cause x) is serves may none on = absurd is
  rank_falls u (Walks a x end) is serves may none on = absurd is
  rank_falls u (ClearsId end) is serves may none on = absurd is
  rank_falls u (LastWakes end) is serves may none on = absurd is
  rank_falls u (HasEnded end) is serves may none on = absurd is

  -- behind the template there are so many more at most
  if_runs : (b : Bool) (x y : Point) → (x ≡ Runs → ⊥) → (y ≡ Runs → ⊥) → (if b then x else y) ≡ Runs → ⊥
  if_runs true x y h g e = h e
  if_runs false x y h g e = g e

  pub rank_ends : (pt : Point) → IsTemplate pt → source_event w T t pt r w' e ≡ None → next w e pt r ≡ Runs
      → more + 12 + spare_at pt < rank more w pt
  rank_ends Unmade is none on = absurd is
  rank_ends Runs is none on = absurd is
  rank_ends (EnterPends m) is none on = absurd cc
  rank_ends (EnterTries m) is none on = absurd (if_runs (r == 0) _ _ (λ h. cc) (λ h. cc) on)
  rank_ends (ReenterPends m) is none on = absurd cc
  rank_ends (ReenterTries m) is none on = absurd (if_runs (r == 0) _ _ (λ h. cc) (λ h. cc) on)
  rank_ends (TakeReads m k) is none on = absurd (if_runs (owner r == 0) _ _ (λ h. cc) (λ h. cc) on)
  rank_ends (TakeMarks m v k) is none on = absurd (if_runs (r == v) _ _ (λ h. cc) (λ h. cc) on)
  rank_ends (TakeSleeps m v k) is none on = absurd cc
  rank_ends (TakeTries m v k) is none on = absurd (if_runs (r == v) _ _ (λ h. cc) (λ h. cc) on)
  rank_ends (GotReads m v) is none on = absurd cc
  rank_ends (GotLinks m v h) is none on = absurd cc
  rank_ends (GotHeads m v) is none on = absurd cc
  rank_ends (GotUnpends m v) is none on = omega arith
  rank_ends (WaitReads c) is none on = absurd cc
  rank_ends (NotifyAdds c) is none on = absurd cc
  rank_ends (NotifyWakes c) is none on = absurd cc
  rank_ends (BroadcastAdds c) is none on = absurd cc
  rank_ends (BroadcastMarks c) is none on = absurd cc
  rank_ends (BroadcastReads c) is none on = absurd cc
  rank_ends (BroadcastMoves c s) is none on = absurd cc
  rank_ends (JoinReads q) is none on = absurd is
  rank_ends (JoinSleeps q) is none on = absurd is
  rank_ends (JoinLearns q end) is none on = absurd is
  rank_ends (JoinTakes q end) is none on = absurd is
  rank_ends (MeetsClaimed q) is none on = absurd is
  rank_ends (LeavePends m k) is none on = absurd cc
  rank_ends (LeaveReads m k) is none on = absurd cc
  rank_ends (LeaveHeads m h k) is none on = absurd cc
  rank_ends (LeaveSwaps m k) is none on = absurd cc
  rank_ends (LeaveLoads m k) is none on = absurd cc
  rank_ends (LeaveKeeps m v k) is none on = absurd cc
  rank_ends (LeaveClears m k) is none on = absurd cc
  rank_ends (LeaveWakes m k) is none on = absurd cc
  rank_ends (HasLeft m ToExit) is none on = omega arith
  rank_ends (HasLeft m (ToWait c s)) is none on = absurd cc
  rank_ends (Dies cause x) is none on = absurd is
  rank_ends (Walks a x end) is none on = absurd is
  rank_ends (ClearsId end) is none on = absurd is
  rank_ends (LastWakes end) is none on = absurd is
  rank_ends (HasEnded end) is none on = absurd is
