-- Whose workers wait for a bucket: nobody's, or a bit for each number of a thread, in 16 words, as a set of several threads
-- has them.
use Rattle.std.specs.Prelude.{ℕ, ◌≡◌, ◌≤◌, ◌==◌, ◌||◌, ⊤, Bool, false, List, [], ◌∷◌, length, replicate}
use Rattle.std.specs.Int.Bits.{bit_or}
use Rattle.machine.specs.declared.thread_set.ThreadSet.{ThreadSet}
use Rattle.machine.specs.declared.thread_set.ThreadSet.TheVariants.{Nobody, Several}
use Rattle.machine.specs.ThreadSets.{IsThread, has, with_bit}
use Rattle.workers.specs.declared.bucket_waiters.BucketWaiters.{BucketWaiters}
use Rattle.workers.specs.declared.bucket_waiters.BucketWaiters.TheVariants.{Nobody as Nobody', Waiters}

-- nobody's
abbrev pub nobody : BucketWaiters
nobody = Nobody'

-- the threads whose workers do
abbrev pub threads_of : BucketWaiters → ThreadSet
threads_of Nobody' = Nobody
threads_of (Waiters words) = Several words

-- whether that of thread t does
abbrev pub waits : BucketWaiters → ℕ → Bool
waits waiters t = has (threads_of waiters) t

-- that of thread t too
abbrev pub with_waiter : BucketWaiters → ℕ → BucketWaiters
with_waiter Nobody' t = Waiters (with_bit (replicate 16 0) t)
with_waiter (Waiters words) t = Waiters (with_bit words t)

-- the bits of both, word by word
abbrev pub or_words : List ℕ → List ℕ → List ℕ
or_words [] vs = []
or_words (w ∷ ws) [] = w ∷ ws
or_words (w ∷ ws) (v ∷ vs) = bit_or w v ∷ or_words ws vs

-- those of both
abbrev pub joined : BucketWaiters → BucketWaiters → BucketWaiters
joined Nobody' b = b
joined (Waiters ws) Nobody' = Waiters ws
joined (Waiters ws) (Waiters vs) = Waiters (or_words ws vs)

-- there are 16 words
abbrev pub IsWhole : BucketWaiters → Type 0
IsWhole Nobody' = ⊤
IsWhole (Waiters words) = length words ≡ 16

-- nobody waits at first, then whoever was added, and of two together whoever waits by one of them
pub record WaitersSo : Type 0 where
  pub none : (t : ℕ) → waits nobody t ≡ false
  pub added : (waiters : BucketWaiters) (t u : ℕ) → IsWhole waiters → IsThread t → 1 ≤ u
      → waits (with_waiter waiters t) u ≡ (u == t || waits waiters u)
  pub whole : (waiters : BucketWaiters) (t : ℕ) → IsWhole waiters → IsWhole (with_waiter waiters t)
  pub both : (a b : BucketWaiters) (t : ℕ) → IsWhole a → IsWhole b
      → waits (joined a b) t ≡ (waits a t || waits b t)
