-- The packed state in which an image begins.
use Rattle.std.proofs.Common.{◌≡◌, ◌<◌, ◌≤◌, ◌∙◌, ℕ, zero, suc, List, [], ◌∷◌, Some, None}
use Rattle.std.proofs.Common.{refl, sym, ap, subst, arith, length, All}
use Rattle.std.specs.Prelude.{slice_index, slice_set, replicate}
use Rattle.std.proofs.lemmas.List.{length-set, length-replicate}
use Rattle.std.proofs.lemmas.List.Elements.{All-push}
use Rattle.std.proofs.lemmas.Option.{slice_get_within}
use Rattle.words.specs.Updates.{put}
use Rattle.words.proofs.Updates.{put_other}
use Rattle.words.specs.Versions.{base_of, most_of}
use Rattle.words.specs.declared.version.ImageVersion.{ImageVersion}
use Rattle.words.specs.declared.version.ImageVersion.TheVariants.{One, Two, Linux}
use Rattle.isa.specs.Programs.{Program, memory_size}
use Rattle.locals.specs.Threads.{opening_thread}
use Rattle.machine.specs.States.{State, opening_state, with_thread}
use Rattle.image_states.specs.declared.packed.Packed.{Packed as PackedOf}
use Rattle.image_states.specs.declared.parts.Parts.{Parts as PartsOf}
use Rattle.image_states.specs.Nexts.{Covers}
use Rattle.image_states.specs.Opening.{IsOpening}
use Rattle.image_states.specs.Packed.{asleep_at, some_words, thread_at, unpacked, words_in, IsWithin}
use Rattle.image_states.proofs.Covering.{leaf, run_covered}
use Rattle.image_states.proofs.Served.{set_put}

zeros : (n k : ℕ) → slice_index (replicate n 0) k ≡ 0
zeros zero k = refl
zeros (suc n) zero = refl
zeros (suc n) (suc k) = zeros n k

far : (v : ImageVersion) → 3 < base_of v
far One = omega arith
far Two = omega arith
far Linux = omega arith

some_thread : (v : ImageVersion) → 0 < most_of v
some_thread One = omega arith
some_thread Two = omega arith
some_thread Linux = omega arith

three_within : (p : Program) → 3 < memory_size p
three_within p = let l : 3 < base_of p.version = far p.version in omega (arith, l)

module _ (p : Program) (parts : PartsOf) (x : PackedOf) (most_is : parts.most ≡ most_of p.version) (is : IsOpening p parts x) where
  abbrev pub nobody : State
  nobody = record (opening_state p) { thread = λ t. None }

  abbrev pub zeros_list : List ℕ
  zeros_list = replicate (memory_size p) 0

  abbrev pub words : List ℕ
  words = slice_set zeros_list 3 1

  words_are : words ≡ words_in parts.memories.items x.memory
  words_are = sym (ap some_words is.words) ∙ ap (words_in parts.memories.items) (sym is.alone.memory)

  word_is : (k : ℕ) → put (λ a. 0) 3 1 k ≡ slice_index (words_in parts.memories.items x.memory) k
  word_is k = (λ i. put (λ a. sym (zeros (memory_size p) a) i) 3 1 k)
      ∙ sym (set_put zeros_list 3 1 k
      (let l : 3 < memory_size p = three_within p in
      let e : length zeros_list ≡ memory_size p = length-replicate (memory_size p) 0 in
      omega (arith, l, e)))
      ∙ ap (λ w. slice_index w k) words_are

  size_is : memory_size p ≡ length (words_in parts.memories.items x.memory)
  size_is = sym (length-set zeros_list 3 1 ∙ length-replicate (memory_size p) 0)
      ∙ ap length words_are

  thread_is : (u : ℕ) → put (λ t. None) 1 (Some is.there) u ≡ thread_at parts.locals.items (is.part ∷ []) u
  thread_is zero = refl
  thread_is (suc zero) = sym is.is
  thread_is (suc (suc u)) = put_other (λ t. None) 1 (Some is.there) (suc (suc u)) (λ e. omega (arith, e))

  asleep_is : (u : ℕ) → None ≡ asleep_at (0 ∷ []) u
  asleep_is zero = refl
  asleep_is (suc zero) = refl
  asleep_is (suc (suc u)) = refl

  is_unpacked : record (with_thread nobody 1 is.there) { output = [] } ≡ unpacked p parts x
  is_unpacked = λ i. record (unpacked p parts x) {
    most = sym most_is i;
    word = λ k. word_is k i;
    size = size_is i;
    made = ap length (sym is.alone.parts) i;
    thread = λ u. (thread_is u ∙ ap (λ ns. thread_at parts.locals.items ns u) (sym is.alone.parts)) i;
    asleep = λ u. (asleep_is u ∙ ap (λ ns. asleep_at ns u) (sym is.alone.places)) i;
  }

  pub opening_covers : Covers p parts x (opening_state p) 0
  opening_covers = subst (Covers p parts x (opening_state p)) is.alone.killed (λ kept has.
      run_covered p parts.alone kept x.killed nobody 1 is.count (opening_thread p.start []) is.there is.runs.goes is.runs.lives
      (zero, leaf p parts kept x (with_thread nobody 1 is.there) is_unpacked has))

  pub opening_within : IsWithin parts x
  opening_within = record {
    memory = subst (λ m. m < length parts.memories.items) (sym is.alone.memory)
        (slice_get_within parts.memories.items is.memory words is.words);
    locals = subst (All (λ n. n < length parts.locals.items)) (sym is.alone.parts)
        (All-push (λ n. n < length parts.locals.items) [] is.part (λ k d l. absurd (omega (arith, l)))
        (slice_get_within parts.locals.items is.part is.there is.is));
    places = ap length is.alone.places ∙ ap length (sym is.alone.parts);
    few = subst (λ ns. length ns ≤ parts.most) (sym is.alone.parts)
        (let l : 0 < most_of p.version = some_thread p.version in omega (arith, l, most_is));
  }
