-- How many pieces of its call a thread has taken, and whether it pauses.
use Rattle.std.proofs.Common.{◌≡◌, ◌∙◌, ℕ, suc, ◌%◌, ◌<◌, ◌≤◌, ◌==◌, ◌⊎◌, ◌||◌, inl, inr, Option, Some, None, is_some}
use Rattle.std.proofs.Common.{refl, ap, Bool, true, false, arith}
use Rattle.std.specs.Prelude.{if◌then◌else◌}
use Rattle.std.proofs.lemmas.Bool.{ne_eqb}
use Rattle.isa.specs.Programs.{Program}
use Rattle.futexcalls.specs.declared.pieces.FutexCall.{FutexCall}
use Rattle.futexcalls.specs.declared.pieces.FutexCall.TheVariants.{Wait, Wake, Requeue}
use Rattle.futexcalls.specs.declared.pieces.FutexPhase.{FutexPhase}
use Rattle.futexcalls.specs.declared.pieces.FutexPhase.TheVariants.{First, Second, Compare, Act}
use Rattle.futexcalls.specs.Pieces.{takes_at, after_lock, IsPhase}
use Rattle.locals.specs.Threads.{Thread}
use Rattle.locals.specs.Looks.{Asks}
use Rattle.machine.specs.Runs.{has_ended, is_paused}
use Rattle.machine.specs.PieceStates.{PieceState, request_of, called, committed_at}
use Rattle.proof_pieces.specs.Traces.{pieces_before, taken_at}
use Rattle.proof_pieces.specs.Whole.{either, whole_at, whole}

-- a bucket that is taken is one of the pieces before the call's step
pub lock_few : (n : ℕ) (ph : FutexPhase) (call : FutexCall) (go : ℕ → Thread) (b : ℕ) → takes_at n ph call ≡ Some b
    → taken_at n ph (Some call) < pieces_before (Asks (request_of call) go)
lock_few n First (Wait a expected) go b h = omega arith
lock_few n First (Wake a wakes) go b h = omega arith
lock_few n First (Requeue x y wakes moves expected) go b h = omega arith
lock_few n Second (Wait a expected) go b h = absurd cc
lock_few n Second (Wake a wakes) go b h = absurd cc
lock_few n Second (Requeue x y wakes moves expected) go b h = omega arith
lock_few n Compare call go b h = absurd cc
lock_few n Act call go b h = absurd cc

pub lock_more : (n : ℕ) (ph : FutexPhase) (call : FutexCall) (b : ℕ) → (ph ≡ First) ⊎ IsPhase n ph call
    → takes_at n ph call ≡ Some b
    → taken_at n (after_lock n ph call) (Some call) ≡ suc (taken_at n ph (Some call))
lock_more n First (Wait a expected) b there h = refl
lock_more n First (Wake a wakes) b there h = refl
lock_more n First (Requeue x y wakes moves expected) b there h = by_test (x.0 % n == y.0 % n) refl
  where
    by_test : (q : Bool) → (x.0 % n == y.0 % n) ≡ q
        → taken_at n (if q then Compare else Second) (Some (Requeue x y wakes moves expected)) ≡ 1
    by_test true q = ap (λ r. if r then 1 else 2) q
    by_test false q = refl
lock_more n Second (Wait a expected) b there h = absurd cc
lock_more n Second (Wake a wakes) b there h = absurd cc
lock_more n Second (Requeue x y wakes moves expected) b there h = elim there [
  | inl e ↦ absurd cc
  | inr apart ↦ ap (λ r. if r then 1 else 2) (ne_eqb (x.0 % n) (y.0 % n) apart)
]
lock_more n Compare call b there h = absurd cc
lock_more n Act call b there h = absurd cc

if_few : (q : Bool) (i j k : ℕ) → i ≤ k → j ≤ k → (if q then i else j) ≤ k
if_few true i j k low high = low
if_few false i j k low high = high

-- within a call no more pieces are taken than come before its step
pub phase_few : (n : ℕ) (ph : FutexPhase) (call : FutexCall) (go : ℕ → Thread) → IsPhase n ph call
    → taken_at n ph (Some call) ≤ pieces_before (Asks (request_of call) go)
phase_few n First call go there = absurd there
phase_few n Second (Wait a expected) go there = absurd there
phase_few n Second (Wake a wakes) go there = absurd there
phase_few n Second (Requeue x y wakes moves expected) go there = omega arith
phase_few n Compare (Wait a expected) go there = omega arith
phase_few n Compare (Wake a wakes) go there = absurd there
phase_few n Compare (Requeue x y wakes moves expected) go there =
    if_few (x.0 % n == y.0 % n) 1 2 3 (omega arith) (omega arith)
phase_few n Act (Wait a expected) go there = omega arith
phase_few n Act (Wake a wakes) go there = omega arith
phase_few n Act (Requeue x y wakes moves expected) go there =
    if_few (x.0 % n == y.0 % n) 2 3 3 (omega arith) (omega arith)

-- a requeue's comparison is one of them
pub equal_few : (q : Bool) → (if q then 1 else 2) < 3
equal_few true = omega arith
equal_few false = omega arith

pub equal_more : (q : Bool) → (if q then 2 else 3) ≡ suc (if q then 1 else 2)
equal_more true = refl
equal_more false = refl

either_none : (o : Option ℕ) → either o None ≡ o
either_none (Some a) = refl
either_none None = refl

outside_whole : (p : Program) (u : ℕ) (o : Option Thread) → whole_at p u First o ≡ o
outside_whole p u None = refl
outside_whole p u (Some x) = refl

-- a thread outside calls pauses in the whole just where it does here
pub outside_paused : (p : Program) (s : PieceState) (t : ℕ) → s.phase t ≡ First
    → is_paused (whole p s) t ≡ is_paused s.base t
outside_paused p s t first =
    ap (λ f. is_some (either (s.base.asleep t) (committed_at f (called p t (s.base.thread t))))
    || has_ended (whole_at p t f (s.base.thread t))) first
    ∙ (λ k. is_some (either_none (s.base.asleep t) k) || has_ended (outside_whole p t (s.base.thread t) k))
