-- A futex call in pieces, of n buckets, where the bucket of an address is its rest by n: which buckets the call takes,
-- in rising order, when it compares, and what its act does.
use Rattle.std.specs.Prelude.{◌≡◌, ◌≢◌, ℕ, ◌%◌, ◌<◌, ◌==◌, nat_le, if◌then◌else◌, Option, Some, None, List, [], ◌∷◌}
use Rattle.std.specs.Prelude.{take}
use Rattle.buckets.specs.Places.{with_place}
use Rattle.futexcalls.specs.declared.pieces.FutexCall.{FutexCall}
use Rattle.futexcalls.specs.declared.pieces.FutexCall.TheVariants.{Wait, Wake, Requeue}
use Rattle.futexcalls.specs.declared.pieces.FutexPhase.{FutexPhase}
use Rattle.futexcalls.specs.declared.pieces.FutexPhase.TheVariants.{First, Second, Compare, Act}
use Rattle.futexcalls.specs.FutexCalls.{Wakes, Moves}

-- the lesser and the greater of two buckets
abbrev pub lesser : ℕ → ℕ → ℕ
lesser i j = if nat_le i j then i else j

abbrev pub greater : ℕ → ℕ → ℕ
greater i j = if nat_le i j then j else i

-- the buckets of a call, in the order in which it takes them
abbrev pub buckets_of : ℕ → FutexCall → List ℕ
buckets_of n (Wait a expected) = a.0 % n ∷ []
buckets_of n (Wake a wakes) = a.0 % n ∷ []
buckets_of n (Requeue a b wakes moves expected) = lesser (a.0 % n) (b.0 % n) ∷ greater (a.0 % n) (b.0 % n) ∷ []

-- the bucket that a call takes next, if it takes one
abbrev pub takes_at : ℕ → FutexPhase → FutexCall → Option ℕ
takes_at n First (Wait a expected) = Some (a.0 % n)
takes_at n First (Wake a wakes) = Some (a.0 % n)
takes_at n First (Requeue a b wakes moves expected) = Some (lesser (a.0 % n) (b.0 % n))
takes_at n Second (Requeue a b wakes moves expected) = Some (greater (a.0 % n) (b.0 % n))
takes_at n Second call = None
takes_at n Compare call = None
takes_at n Act call = None

-- the phase behind a bucket that was taken
abbrev pub after_lock : ℕ → FutexPhase → FutexCall → FutexPhase
after_lock n First (Wait a expected) = Compare
after_lock n First (Wake a wakes) = Act
after_lock n First (Requeue a b wakes moves expected) = if a.0 % n == b.0 % n then Compare else Second
after_lock n Second call = Compare
after_lock n Compare call = Compare
after_lock n Act call = Act

-- the buckets of a call, if there is one
abbrev pub all_held : ℕ → Option FutexCall → List ℕ
all_held n None = []
all_held n (Some call) = buckets_of n call

-- the buckets that are held in a phase of a call
abbrev pub held_at : ℕ → FutexPhase → Option FutexCall → List ℕ
held_at n First call = []
held_at n Second call = take 1 (all_held n call)
held_at n Compare call = all_held n call
held_at n Act call = all_held n call

-- a phase behind the first in which a thread can stand in a call
abbrev pub IsPhase : ℕ → FutexPhase → FutexCall → Type 0
IsPhase n First call = ⊥
IsPhase n Second (Requeue a b wakes moves expected) = a.0 % n ≢ b.0 % n
IsPhase n Second call = ⊥
IsPhase n Compare (Wait a expected) = Unit {0}
IsPhase n Compare (Wake a wakes) = ⊥
IsPhase n Compare (Requeue a b wakes moves expected) = Unit {0}
IsPhase n Act call = Unit {0}

-- the words of a call lie in a memory of this size
abbrev pub LiesIn : ℕ → FutexCall → Type 0
LiesIn size (Wait a expected) = a.0 < size
LiesIn size (Wake a wakes) = a.0 < size
LiesIn size (Requeue a b wakes moves expected) = (a.0 < size) × (b.0 < size)

-- the word that a call compares, and with what
abbrev pub Compares : FutexCall → ℕ → ℕ → Type 0
Compares (Wait a expected) w v = (a.0 ≡ w) × (expected ≡ v)
Compares (Wake a wakes) w v = ⊥
Compares (Requeue a b wakes moves expected) w v = (a.0 ≡ w) × (expected ≡ v)

-- a requeue behind its comparison
pub record RequeuesCompared (asleep : ℕ → Option ℕ) (a b n m : ℕ) (woken moved : List ℕ) (after : ℕ → Option ℕ) : Type 0
  where
    pub wakes : Wakes asleep a n woken (with_place asleep woken None)
    pub moves : Moves (with_place asleep woken None) a b m moved after

-- what the act of thread t's call does to the sleepers: whom it wakes, and whom it moves
abbrev pub Acts : ℕ → FutexCall → (ℕ → Option ℕ) → List ℕ → List ℕ → (ℕ → Option ℕ) → Type 0
Acts t (Wait a expected) asleep woken moved after =
    (woken ≡ []) × (moved ≡ []) × (after ≡ with_place asleep (t ∷ []) (Some a.0))
Acts t (Wake a wakes) asleep woken moved after = (moved ≡ []) × Wakes asleep a.0 wakes woken after
Acts t (Requeue a b wakes moves expected) asleep woken moved after =
    RequeuesCompared asleep a.0 b.0 wakes moves woken moved after

-- the answer of a call whose word differs
abbrev pub again_of : FutexCall → ℕ
again_of (Wait a expected) = 1
again_of (Wake a wakes) = 4294967295
again_of (Requeue a b wakes moves expected) = 4294967295
