-- The states that a search over an image keeps, packed as numbers: which state of the definitions each stands for.
use Rattle.std.specs.Prelude.{ℕ, zero, suc, ◌≡◌, ◌<◌, ◌≤◌, ◌++◌, ◌^◌, ◌⊎◌, List, [], All, Option, Some, None, length, slice_index, slice_set}
use Rattle.std.specs.List.{slice_get}
use Rattle.words.specs.declared.mem.Addr.{Addr}
use Rattle.image_states.specs.Marks.{marked}
use Rattle.isa.specs.Programs.{Program, memory_size}
use Rattle.words.specs.Versions.{most_of}
use Rattle.locals.specs.Threads.{Thread}
use Rattle.machine.specs.States.{State}
use Rattle.proof_image_search.specs.Searching.{Kept}
use Rattle.image_states.specs.declared.packed.Packed.{Packed as PackedOf}
use Rattle.image_states.specs.declared.parts.Parts.{Parts as PartsOf}

-- where a thread sleeps: at no address, or at the one before this number
abbrev pub place_of : ℕ → Option ℕ
place_of zero = None
place_of (suc a) = Some a

-- the same of each thread, from 1, by these numbers
abbrev pub asleep_at : List ℕ → ℕ → Option ℕ
asleep_at places zero = None
asleep_at places (suc t) = place_of (slice_index places t)

-- the local state of this number
abbrev pub local_in : List Thread → Option ℕ → Option Thread
local_in locals None = None
local_in locals (Some n) = slice_get locals n

-- each thread, from 1, where these are the numbers of their local states
abbrev pub thread_at : List Thread → List ℕ → ℕ → Option Thread
thread_at locals numbers zero = None
thread_at locals numbers (suc t) = local_in locals (slice_get numbers t)

-- the words of a memory, or none where there is no such memory
abbrev pub some_words : Option (List ℕ) → List ℕ
some_words None = []
some_words (Some words) = words

abbrev pub words_in : List (List ℕ) → ℕ → List ℕ
words_in memories n = some_words (slice_get memories n)

-- a state, with nothing printed
abbrev pub unpacked : Program → PartsOf → PackedOf → State
unpacked p parts x = record {
  most = parts.most;
  word = λ a. slice_index (words_in parts.memories.items x.memory) a;
  size = length (words_in parts.memories.items x.memory);
  made = length x.parts.items;
  thread = thread_at parts.locals.items x.parts.items;
  asleep = asleep_at x.places.items;
  output = [];
}

-- the same, with how many were killed on the way to it
abbrev pub kept_of : Program → PartsOf → PackedOf → Kept
kept_of p parts x = record { state = unpacked p parts x; killed = x.killed }

-- parts of the states of this image: how many threads they may have, and how many words their memories
pub record IsFor (p : Program) (parts : PartsOf) : Type 0 where
  pub most : parts.most ≡ most_of p.version
  pub size : parts.size ≡ memory_size p

-- its parts are there, each thread sleeps at a place or is awake, and there are no more threads than there may be
pub record IsWithin (parts : PartsOf) (x : PackedOf) : Type 0 where
  pub memory : x.memory < length parts.memories.items
  pub locals : All (λ n. n < length parts.locals.items) x.parts.items
  pub places : length x.places.items ≡ length x.parts.items
  pub few : length x.parts.items ≤ parts.most

-- more stands behind what stood there
abbrev pub IsPrefix : {A : Type 0} → List A → List A → Type 0
IsPrefix {A} xs ys = (more : List A) × (ys ≡ xs ++ more)

-- there are more parts, and each has its number still; exits are followed alone, or not, as before, and as many threads may
-- be
pub record IsGrown (parts parts' : PartsOf) : Type 0 where
  pub alone : parts'.alone ≡ parts.alone
  pub most : parts'.most ≡ parts.most
  pub locals : IsPrefix parts.locals.items parts'.locals.items
  pub memories : IsPrefix parts.memories.items parts'.memories.items

-- there are as many local states, or as many memories, as have numbers
abbrev pub IsOutOfNumbers : PartsOf → Type 0
IsOutOfNumbers parts = (2 ^ 32 ≤ length parts.locals.items) ⊎ (2 ^ 32 ≤ length parts.memories.items)

-- the same numbers
pub record IsSameKey (x y : PackedOf) : Type 0 where
  pub memory : x.memory ≡ y.memory
  pub killed : x.killed ≡ y.killed
  pub parts : x.parts.items ≡ y.parts.items
  pub places : x.places.items ≡ y.places.items

-- the same but for where threads sleep
pub record IsPlaced (x y : PackedOf) (asleep : ℕ → Option ℕ) : Type 0 where
  pub memory : y.memory ≡ x.memory
  pub parts : y.parts.items ≡ x.parts.items
  pub places : asleep_at y.places.items ≡ asleep
  pub count : length y.places.items ≡ length x.places.items

-- one but for the thread behind so many others, whose local state has this number now, and the memory
pub record IsMoved (x y : PackedOf) (k m n : ℕ) : Type 0 where
  pub memory : y.memory ≡ m
  pub killed : y.killed ≡ x.killed
  pub parts : y.parts.items ≡ slice_set x.parts.items k n
  pub places : y.places.items ≡ x.places.items
  pub less : k < length x.parts.items

-- a memory is another with what is marked
pub record IsMarked (parts : PartsOf) (before : ℕ) (marks : Option (Addr × ℕ)) (after : ℕ) : Type 0 where
  pub within : after < length parts.memories.items
  pub words : (a : ℕ) → slice_index (words_in parts.memories.items after) a
      ≡ marked marks (λ b. slice_index (words_in parts.memories.items before) b) a
  pub size : length (words_in parts.memories.items after) ≡ length (words_in parts.memories.items before)
