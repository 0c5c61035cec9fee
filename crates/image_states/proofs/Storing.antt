-- Which memory another one is with a word stored, as it is noted.
use Rattle.std.proofs.Common.{◌≡◌, ◌∙◌, ◌<◌, ◌≤◌, ◌+◌, ◌++◌, ◌⊎◌, ℕ, zero, suc, List, [], ◌∷◌, Some, None, ap, arith, inl, inr}
use Rattle.std.proofs.Common.{Bool, false, length, slice_get, subst, sym, true}
use Rattle.std.specs.Prelude.{if◌then◌else◌, slice_set}
use Rattle.std.specs.List.{All}
use Rattle.std.proofs.lemmas.Bool.{cases_lt}
use Rattle.std.proofs.lemmas.List.{length-append}
use Rattle.std.proofs.lemmas.Option.{get_or_from_slice_get, same_Some, slice_get_past, slice_get_within, slice_get-get_or}
use Rattle.image_states.specs.declared.parts.Parts.{Parts as PartsOf}
use Rattle.image_states.specs.declared.stored.Stored.{Stored}
use Rattle.image_states.specs.Packed.{some_words, words_in, IsGrown}
use Rattle.image_states.specs.Stores.{free, AreStored, IsStored}
use Rattle.image_states.proofs.Growing.{no_words, prefix_within, slice_get_more, words_still}

-- of more memories
stored_grown : (memories more : List (List ℕ)) (notes : List Stored) → AreStored memories notes
    → AreStored (memories ++ more) notes
stored_grown memories more notes are i note at ne =
    let is = are i note at ne in
    let size : length (memories ++ more) ≡ length memories + length more = length-append memories more in (
      omega (arith, size, is.0),
      λ words there.
          let was = is.1 words (sym (slice_get_more memories more note.before is.0) ∙ there) in
          slice_get_more memories more note.after (slice_get_within memories note.after _ was) ∙ was,
    )

-- of one memory more, where there was room for it
pub stored_pushed : (memories more : List (List ℕ)) (m : List ℕ) (notes : List Stored) (pushed : Bool)
    → more ≡ (if pushed then memories ++ m ∷ [] else memories) → AreStored memories notes → AreStored more notes
stored_pushed memories more m notes true e are =
    subst (λ ms. AreStored ms notes) (sym e) (stored_grown memories (m ∷ []) notes are)
stored_pushed memories more m notes false e are = subst (λ ms. AreStored ms notes) (sym e) are

-- nothing is noted
pub stored_none : (memories : List (List ℕ)) → AreStored memories []
stored_none memories i note at ne = absurd (let no' : None ≡ Some note = at in cc)

pub stored_free : (memories : List (List ℕ)) (notes : List Stored) → All (λ s. s.after ≡ free) notes
    → AreStored memories notes
stored_free memories notes all i note at ne =
    absurd (ne (ap (λ (s : Stored). s.after) (sym (get_or_from_slice_get notes i note note at))
    ∙ all i note (slice_get_within notes i note at)))

get_set : {X : Type 0} (xs : List X) (i j : ℕ) (x y : X) → slice_get (slice_set xs i x) j ≡ Some y
    → (x ≡ y) ⊎ (slice_get xs j ≡ Some y)
get_set [] i j x y h = inr h
get_set (z ∷ zs) zero zero x y h = inl (same_Some _ _ h)
get_set (z ∷ zs) zero (suc j) x y h = inr h
get_set (z ∷ zs) (suc i) zero x y h = inr h
get_set (z ∷ zs) (suc i) (suc j) x y h = get_set zs i j x y h

-- one is noted in the place of another
pub stored_set : (memories : List (List ℕ)) (notes : List Stored) (i : ℕ) (note : Stored) → AreStored memories notes
    → IsStored memories note.before note.address note.word note.after → AreStored memories (slice_set notes i note)
stored_set memories notes i note are is j x at ne = elim (get_set notes i j note x at) [
  | inl e ↦ subst (λ (s : Stored). IsStored memories s.before s.address s.word s.after) e is
  | inr was ↦ are j x was ne
]

-- a note that is of these numbers
pub stored_as : (memories : List (List ℕ)) (note : Stored) (before a v : ℕ)
    → IsStored memories note.before note.address note.word note.after → note.before ≡ before → note.address ≡ a
    → note.word ≡ v → IsStored memories before a v note.after
stored_as memories note before a v is same_before same_address same_word =
    subst (λ w. IsStored memories before a w note.after) same_word
    (subst (λ b. IsStored memories before b note.word note.after) same_address
    (subst (λ n. IsStored memories n note.address note.word note.after) same_before is))

pub stored_there : (memories : List (List ℕ)) (n a v m : ℕ) → IsStored memories n a v m
    → slice_get memories m ≡ Some (slice_set (words_in memories n) a v)
stored_there memories n a v m is =
    let e = slice_get-get_or memories n [] is.0 in
    is.1 (words_in memories n) (e ∙ ap (λ w. Some w) (sym (ap some_words e)))

-- a memory that has words is there
pub has_number : (memories : List (List ℕ)) (n a : ℕ) → a < length (words_in memories n) → n < length memories
has_number memories n a less = by_test (cases_lt n (length memories))
  where
    by_test : (n < length memories) ⊎ (length memories ≤ n) → n < length memories
    by_test (inl there) = there
    by_test (inr past) = absurd (let none = no_words memories n a (slice_get_past memories n past) in
        omega (arith, none, less))

-- what was stored is noted with more parts
pub stored_behind : (a b : PartsOf) → IsGrown a b → (n address v m : ℕ) → address < length (words_in a.memories.items n)
    → slice_get b.memories.items m ≡ Some (slice_set (words_in a.memories.items n) address v)
    → IsStored b.memories.items n address v m
stored_behind a b grown n address v m lies is =
    let less = has_number a.memories.items n address lies in (
      prefix_within a.memories.items b.memories.items n grown.memories less,
      λ words there.
          let same = words_still a b grown n less in
          is ∙ ap (λ w. Some (slice_set w address v)) (sym same ∙ ap some_words there),
    )
