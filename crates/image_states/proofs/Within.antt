-- The words and the threads of states that are within some parts.
use Rattle.std.proofs.Common.{◌≡◌, ◌<◌, ◌≤◌, ◌+◌, ◌*◌, ◌++◌, ◌∷◌, ◌∙◌, ℕ, suc, Bool, true, false, List, [], Option, None, Some}
use Rattle.std.proofs.Common.{ap, arith, get_or, length, refl, slice_get, subst, sym}
use Rattle.std.specs.Prelude.{if◌then◌else◌}
use Rattle.std.proofs.lemmas.List.Elements.{All-push}
use Rattle.std.proofs.lemmas.Option.{slice_get_within, slice_get-get_or}
use Rattle.words.specs.Process.{process_word}
use Rattle.words.specs.Versions.{base_of, most_of}
use Rattle.words.specs.declared.version.ImageVersion.{ImageVersion}
use Rattle.words.specs.declared.version.ImageVersion.TheVariants.{One, Two, Linux}
use Rattle.words.specs.declared.outcome.Cause.TheVariants.{Killed}
use Rattle.words.specs.declared.mem.Addr.{Addr}
use Rattle.locals.specs.Threads.{Thread, Dies}
use Rattle.image_states.specs.declared.packed.Packed.{Packed as PackedOf}
use Rattle.image_states.specs.declared.parts.Parts.{Parts as PartsOf}
use Rattle.image_states.specs.Exits.{IsAddressIn}
use Rattle.image_states.specs.Packed.{local_in, some_words, thread_at, words_in, IsWithin}
use Rattle.image_states.specs.Room.{AreSized, AreThreads, IsRoom}

-- the memory of an image
pub room_of : (v : ImageVersion) (m s : ℕ) → m ≤ 64 → s ≤ 1024 → IsRoom (most_of v) (base_of v + 2 * m + s)
room_of One m s few small =
    record { few = omega arith; words = omega (arith, few, small); numbers = omega (arith, few, small) }
room_of Two m s few small =
    record { few = omega arith; words = omega (arith, few, small); numbers = omega (arith, few, small) }
room_of Linux m s few small =
    record { few = omega arith; words = omega (arith, few, small); numbers = omega (arith, few, small) }

-- one memory more, where there was room for it
pub sized_pushed : (size : ℕ) (memories more : List (List ℕ)) (m : List ℕ) (pushed : Bool)
    → more ≡ (if pushed then memories ++ m ∷ [] else memories) → AreSized size memories → length m ≡ size
    → AreSized size more
sized_pushed size memories more m true e are is =
    subst (AreSized size) (sym e) (All-push (λ words. length words ≡ size) memories m are is)
sized_pushed size memories more m false e are is = subst (AreSized size) (sym e) are

module _ (parts : PartsOf) (m : ℕ) (there : m < length parts.memories.items) where
  pub size_is : length (words_in parts.memories.items m) ≡ parts.size
  size_is = ap (λ o. length (some_words o)) (slice_get-get_or parts.memories.items m [] there) ∙ parts.sized m [] there

  pub its_size : (words : List ℕ) → slice_get parts.memories.items m ≡ Some words → length words ≡ parts.size
  its_size words e = ap length (sym (ap some_words e)) ∙ size_is

  pub not_missing : slice_get parts.memories.items m ≡ None → ⊥
  not_missing none =
      let differ : None ≡ Some (get_or parts.memories.items m []) =
      sym none ∙ slice_get-get_or parts.memories.items m [] there in cc

  -- the words of a thread lie in it
  pub word_lies : (t k : ℕ) → t ≤ parts.most → k ≤ 5 → process_word t k < length (words_in parts.memories.items m)
  word_lies t k few within =
      let size : length (words_in parts.memories.items m) ≡ parts.size = size_is in
      let room : process_word parts.most 5 < parts.size = (parts.room).words in
      omega (arith, size, room, few, within)

  -- each address in it has one behind it
  pub address_few : (a : ℕ) → a < length (words_in parts.memories.items m) → a < 4294967295
  address_few a less =
      let size : length (words_in parts.memories.items m) ≡ parts.size = size_is in
      let numbers : parts.size < 4294967296 = (parts.room).numbers in
      omega (arith, size, numbers, less)

  pub address_in : (o : Option Addr) → IsAddressIn (length (words_in parts.memories.items m)) o → IsAddressIn 4294967295 o
  address_in None is = tt
  address_in (Some a) is = address_few a.0 is

-- a thread that was made
pub made_of : (locals : List Thread) (ns : List ℕ) (k : ℕ) (z : Thread) → thread_at locals ns (suc k) ≡ Some z
    → k < length ns
made_of locals ns k z = by (slice_get ns k) refl
  where
    by : (o : Option ℕ) → slice_get ns k ≡ o → local_in locals o ≡ Some z → k < length ns
    by None e is = absurd (let differ : None ≡ Some z = is in cc)
    by (Some n) e is = slice_get_within ns k n e

module _ (parts : PartsOf) (x : PackedOf) (is : IsWithin parts x) where
  pub places_few : length x.places.items ≤ 1000
  places_few =
      let places : length x.places.items ≡ length x.parts.items = is.places in
      let few : length x.parts.items ≤ parts.most = is.few in
      let most : parts.most ≤ 1000 = (parts.room).few in
      omega (arith, places, few, most)

  pub thread_within : (k t : ℕ) → t ≡ suc k → k < length x.parts.items → t ≤ parts.most
  thread_within k t number made =
      let few : length x.parts.items ≤ parts.most = is.few in omega (arith, number, made, few)

  pub thread_few : (k t : ℕ) → t ≡ suc k → k < length x.parts.items → t ≤ 1000
  thread_few k t number made =
      let less : t ≤ parts.most = thread_within k t number made in
      let most : parts.most ≤ 1000 = (parts.room).few in
      omega (arith, less, most)

  pub one_thread : (k t : ℕ) → t ≡ suc k → k < length x.parts.items → AreThreads (length x.places.items) (t ∷ [])
  one_thread k t number made =
      let places : length x.places.items ≡ length x.parts.items = is.places in
      All-push (λ u. (0 < u) × (u ≤ length x.places.items)) [] t (λ i d less. absurd (omega (arith, less)))
      (omega (arith, number), omega (arith, number, made, places))

  pub is_there : (k : ℕ) → k < length x.parts.items
      → thread_at parts.locals.items x.parts.items (suc k) ≡ None → ⊥
  is_there k made none =
      let n = get_or x.parts.items k 0 in
      let number : slice_get x.parts.items k ≡ Some n = slice_get-get_or x.parts.items k 0 made in
      let less : n < length parts.locals.items = is.locals k 0 made in
      let there : slice_get parts.locals.items n ≡ Some (get_or parts.locals.items n (Dies Killed)) =
      slice_get-get_or parts.locals.items n (Dies Killed) less in
      let differ : None ≡ Some (get_or parts.locals.items n (Dies Killed)) =
      sym none ∙ ap (local_in parts.locals.items) number ∙ there in cc
