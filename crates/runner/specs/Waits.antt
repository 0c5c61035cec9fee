-- Which threads are known to want which bucket, and who of them is passed over, as the rounds of a run keep it.
use Rattle.std.specs.Prelude.{ℕ, ◌≡◌, ◌≤◌, ◌<◌, ◌+◌, ◌⊎◌, true, false, List, Option, Some, None, slice_get}
use Rattle.std.specs.Int.{bit_at}
use Rattle.words.specs.Limits.{run_buckets}
use Rattle.isa.specs.Programs.{Program}
use Rattle.machine.specs.ConcreteSteps.{can_move}
use Rattle.machine.specs.ThreadSets.{has_bit, IsMember}
use Rattle.piece_machine.specs.PieceConcrete.{PieceConcrete}
use Rattle.runner.specs.declared.passing_over.Waiting.{Waiting}
use Rattle.runner.specs.declared.thread_bits.ThreadBits.{ThreadBits}
use Rattle.runner.specs.Attempts.{WantsBucket}
use Rattle.runner.specs.Reports.{IsHeldUp}

-- each thread of which it is noted wants the bucket
abbrev pub WantIn : Program → PieceConcrete → List (Option ℕ) → Type 0
WantIn p k wants = (t bucket : ℕ) → slice_get wants t ≡ Some (Some bucket) → WantsBucket p k t bucket

abbrev pub AllWant : Program → PieceConcrete → Waiting → Type 0
AllWant p k w = WantIn p k w.wants

-- a thread that is passed over: it stands in the set of a bucket that is shut
pub record IsPassed (w : Waiting) (t : ℕ) : Type 0 where
  pub bucket : ℕ
  pub set : ThreadBits
  pub at : slice_get w.wanting bucket ≡ Some set
  pub has : has_bit set.words t ≡ true
  pub shut : bit_at w.shut bucket ≡ 1

-- what is kept agrees: who stands in the set of a bucket is noted to want it, who isn't ready stands in that of one that
-- is shut, and the buckets are those that there are
pub record IsSound (w : Waiting) : Type 0 where
  pub named : (b t : ℕ) (set : ThreadBits) → slice_get w.wanting b ≡ Some set → 1 ≤ t → has_bit set.words t ≡ true
      → slice_get w.wants t ≡ Some (Some b)
  pub passed : (t : ℕ) → IsMember t → has_bit w.ready.words t ≡ false → IsPassed w t
  pub few : (t b : ℕ) → slice_get w.wants t ≡ Some (Some b) → b < run_buckets

-- a bucket that is shut is held
abbrev pub IsHeldIf : PieceConcrete → ℕ → ℕ → Type 0
IsHeldIf k shut bucket = bit_at shut bucket ≡ 1 → (u : ℕ) × (k.holder bucket ≡ Some u)

abbrev pub AllHeld : PieceConcrete → Waiting → Type 0
AllHeld k w = (bucket : ℕ) → bucket < run_buckets → IsHeldIf k w.shut bucket

-- all of it
pub record AllWait (p : Program) (k : PieceConcrete) (w : Waiting) : Type 0 where
  pub want : AllWant p k w
  pub sound : IsSound w
  pub held : AllHeld k w

-- the threads that can move from one number on are held up, up to this thread, which can move; or all of them
abbrev pub IsNextFree : Program → PieceConcrete → ℕ → Option ℕ → Type 0
IsNextFree p k from None = (u : ℕ) → from ≤ u → can_move k.concrete u ≡ true → IsHeldUp p k u
IsNextFree p k from (Some t) =
    (from ≤ t) × (can_move k.concrete t ≡ true)
    × ((u : ℕ) → from ≤ u → u < t → can_move k.concrete u ≡ true → IsHeldUp p k u)

-- the same from the threads behind this one on, and behind the last one from the first
abbrev pub IsNextAround : Program → PieceConcrete → ℕ → Option ℕ → Type 0
IsNextAround p k last None = IsNextFree p k 1 None
IsNextAround p k last (Some t) =
    IsNextFree p k (last + 1) (Some t) ⊎ (IsNextFree p k (last + 1) None × IsNextFree p k 1 (Some t))
