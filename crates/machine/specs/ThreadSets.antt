-- A set of threads, in a form that takes no memory: nobody, one thread, or of two and more a bit for each number, in 16
-- words of 64 bits. Each set has one form.
use Rattle.std.specs.Prelude.{ℕ, ◌≡◌, ◌-◌, ◌/◌, ◌%◌, ◌^◌, ◌<◌, ◌≤◌, ◌==◌, if◌then◌else◌, Bool, true, false, ⊤, List}
use Rattle.std.specs.Prelude.{replicate, slice_index, slice_set, Option, Some, None}
use Rattle.std.specs.List.{All, fold}
use Rattle.std.specs.Int.{bit_at}
use Rattle.std.specs.Int.Bits.{bit_or, bit_xor}
use Rattle.words.specs.Limits.{most_threads}
use Rattle.buckets.specs.Places.{names}
use Rattle.machine.specs.declared.thread_set.ThreadSet.{ThreadSet}
use Rattle.machine.specs.declared.thread_set.ThreadSet.TheVariants.{Nobody, Single, Several}

-- the greatest number of a thread that a set can have
abbrev pub most_members : ℕ
most_members = 1000

-- the words with the bit of a thread set
abbrev pub with_bit : List ℕ → ℕ → List ℕ
with_bit words t =
    slice_set words ((t - 1) / 64) (bit_or (slice_index words ((t - 1) / 64)) (2 ^ ((t - 1) % 64)))

-- the words with the bit of a thread turned over
abbrev pub with_turned : List ℕ → ℕ → List ℕ
with_turned words t =
    slice_set words ((t - 1) / 64) (bit_xor (slice_index words ((t - 1) / 64)) (2 ^ ((t - 1) % 64)))

-- whether words have the bit of a thread set
abbrev pub has_bit : List ℕ → ℕ → Bool
has_bit words t = bit_at (slice_index words ((t - 1) / 64)) ((t - 1) % 64) == 1

-- a set, and one thread more
abbrev pub with_thread : ThreadSet → ℕ → ThreadSet
with_thread Nobody t = Single t
with_thread (Single u) t = if t == u then Single u else Several (with_bit (with_bit (replicate 16 0) u) t)
with_thread (Several words) t = Several (with_bit words t)

-- the set of a list's threads
abbrev pub set_of : List ℕ → ThreadSet
set_of threads = fold with_thread Nobody threads

-- whether a set has a thread
abbrev pub has : ThreadSet → ℕ → Bool
has Nobody t = false
has (Single u) t = t == u
has (Several words) t = has_bit words t

-- the least number from t on that passes a test, or none
abbrev pub IsLeastFrom : (ℕ → Bool) → ℕ → Option ℕ → Type 0
IsLeastFrom test t None = (u : ℕ) → t ≤ u → test u ≡ false
IsLeastFrom test t (Some u) = (t ≤ u) × (test u ≡ true) × ((v : ℕ) → t ≤ v → v < u → test v ≡ false)

-- no thread behind t has its bit in the first word
abbrev pub HasNoneInFirst : List ℕ → ℕ → Type 0
HasNoneInFirst words t = (u : ℕ) → t < u → u ≤ 64 → has_bit words u ≡ false

-- the number of a thread
abbrev pub IsThread : ℕ → Type 0
IsThread t = (1 ≤ t) × (t ≤ most_threads)

-- a number that a set can have
abbrev pub IsMember : ℕ → Type 0
IsMember t = (1 ≤ t) × (t ≤ most_members)

-- a thread that stands alone in its set is one that a set can have
abbrev pub HasMember : ThreadSet → Type 0
HasMember Nobody = ⊤
HasMember (Single t) = IsMember t
HasMember (Several words) = ⊤

-- the set of a list has the threads of the list and no others
abbrev pub SetsSo : Type 0
SetsSo = (threads : List ℕ) (t : ℕ) → All IsMember threads → 1 ≤ t → has (set_of threads) t ≡ names threads t

-- two lists of the same threads have one set
abbrev pub OneForm : Type 0
OneForm = (xs ys : List ℕ) → All IsMember xs → All IsMember ys → ((t : ℕ) → names xs t ≡ names ys t)
    → set_of xs ≡ set_of ys
