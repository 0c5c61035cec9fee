-- The futex calls as relations (futex(2)): the words as a function from addresses to numbers, and for each thread the
-- address on which it sleeps, before a call and after it.
use Rattle.std.specs.Prelude.{◌≡◌, ◌≢◌, ℕ, ◌<◌, ◌≤◌, Option, Some, None, List, [], ◌∷◌, length, IsTrue, nat_eq}
use Rattle.std.specs.List.{IsDistinct}
use Rattle.buckets.specs.Places.{names, with_place}

-- a choice of at most n sleepers on an address, and of all of them where they are fewer
pub record IsChoice (asleep : ℕ → Option ℕ) (a n : ℕ) (chosen : List ℕ) : Type 0 where
  pub distinct : IsDistinct nat_eq chosen
  pub slept : (t : ℕ) → IsTrue (names chosen t) → asleep t ≡ Some a
  pub few : length chosen ≤ n
  pub all : length chosen < n → (t : ℕ) → asleep t ≡ Some a → IsTrue (names chosen t)

-- a wait of thread t (FUTEX_WAIT) that sleeps: the word is what was expected, and t sleeps on it, in one action
pub record Sleeps (word : ℕ → ℕ) (asleep : ℕ → Option ℕ) (t a expected : ℕ) (after : ℕ → Option ℕ) : Type 0 where
  pub equal : word a ≡ expected
  pub joins : after ≡ with_place asleep (t ∷ []) (Some a)

-- a wake of at most n sleepers (FUTEX_WAKE): which ones is open
pub record Wakes (asleep : ℕ → Option ℕ) (a n : ℕ) (woken : List ℕ) (after : ℕ → Option ℕ) : Type 0 where
  pub choice : IsChoice asleep a n woken
  pub awake : after ≡ with_place asleep woken None

-- a choice of sleepers on a goes to b; where the two are the same nobody does
pub record Moves (asleep : ℕ → Option ℕ) (a b n : ℕ) (moved : List ℕ) (after : ℕ → Option ℕ) : Type 0 where
  pub choice : a ≢ b → IsChoice asleep a n moved
  pub none : a ≡ b → moved ≡ []
  pub goes : after ≡ with_place asleep moved (Some b)

-- a compare-requeue (FUTEX_CMP_REQUEUE) that finds the first word as expected: a wake of at most n on it, and then a
-- move of at most m of the rest
pub record Requeues (word : ℕ → ℕ) (asleep : ℕ → Option ℕ) (a b n m expected : ℕ) (woken moved : List ℕ)
    (after : ℕ → Option ℕ) : Type 0 where
  pub equal : word a ≡ expected
  pub wakes : Wakes asleep a n woken (with_place asleep woken None)
  pub moves : Moves (with_place asleep woken None) a b m moved after
