-- What a contract sees of the buckets: who sleeps, and on which address; and which thread holds each bucket. It is read
-- by the functions below alone.
use Rattle.std.specs.Prelude.{◌≡◌, ℕ, ◌-◌, ◌≤◌, ◌==◌, if◌then◌else◌, Option, Some, None, List, length}
use Rattle.std.specs.Prelude.{slice_index_or}
use Rattle.std.specs.List.{filter_map}
use Rattle.std.specs.Option.{option_map}
use Rattle.words.specs.declared.mem.Addr.{Addr}
use Rattle.buckets.specs.declared.sleeper.Sleeper.{Sleeper}
use Rattle.buckets.specs.Places.{Agree}

-- for each thread from 0 where it sleeps; the sleepers, those of one address in the order of their arrival; and for
-- each bucket from 0 its holder
pub record Sleepers : Type 0 where
  pub places : List (Option Addr)
  pub waiting : List Sleeper
  pub holders : List (Option ℕ)

-- the thread, where it sleeps on the address
abbrev pub thread_on : ℕ → Sleeper → Option ℕ
thread_on a s = if s.address.0 == a then Some s.thread else None

-- the threads that sleep on an address, in the order in which they came to it
unfoldable pub queue : Sleepers → ℕ → List ℕ
queue s a = filter_map (thread_on a) s.waiting

-- the address on which a thread sleeps
unfoldable pub place_of : Sleepers → ℕ → Option ℕ
place_of s t = option_map (λ a. a.0) (slice_index_or s.places t None)

-- the greatest number of a thread; the least is 1
unfoldable pub thread_count : Sleepers → ℕ
thread_count s = length s.places - 1

-- how many buckets there are
unfoldable pub bucket_count : Sleepers → ℕ
bucket_count s = length s.holders

-- the thread that holds a bucket, if one does
unfoldable pub holder_of : Sleepers → ℕ → Option ℕ
holder_of s k = slice_index_or s.holders k None

-- what is true of every value: there is a bucket, whoever sleeps is a thread, and the lists and places agree
pub record IsSound (s : Sleepers) : Type 0 where
  pub some : 1 ≤ bucket_count s
  pub in_range : (t a : ℕ) → place_of s t ≡ Some a → (1 ≤ t) × (t ≤ thread_count s)
  pub agree : Agree (queue s) (place_of s)
