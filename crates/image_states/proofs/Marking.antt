-- A memory of which one word was changed, and what a result says of it.
use Rattle.std.proofs.Common.{◌≡◌, ◌<◌, ◌∙◌, ℕ, Option, Some, None, Result, Ok, Err, ap, length, slice_get, sym, subst}
use Rattle.std.specs.Prelude.{slice_index, slice_set, IfOk, IfSome, OnOk}
use Rattle.std.proofs.lemmas.List.{length-set}
use Rattle.std.proofs.lemmas.Option.{slice_get_within}
use Rattle.words.specs.declared.mem.Addr.{Addr}
use Rattle.image_states.specs.declared.parts.Parts.{Parts as PartsOf}
use Rattle.image_states.specs.Packed.{some_words, words_in, IsGrown, IsMarked}
use Rattle.image_states.proofs.Growing.{prefix_within, words_still}
use Rattle.image_states.specs.Marks.{marked}
use Rattle.image_states.proofs.Served.{set_put}

pub some_two : {X E : Type 0} (r : Result (Option X) E) (A : Type 0) (P R : X → Type 0) → OnOk r A
    → IfOk r (λ o. IfSome o P) → (A → (x : X) → P x → R x) → IfOk r (λ o. IfSome o R)
some_two (Ok None) A P R a p f = tt
some_two (Ok (Some x)) A P R a p f = f a x p
some_two (Err e) A P R a p f = tt

pub marked_so : (a b : PartsOf) (m n : ℕ) (ad : Addr) (v : ℕ) → IsGrown a b → m < length a.memories.items
    → slice_get b.memories.items n ≡ Some (slice_set (words_in a.memories.items m) ad.0 v)
    → ad.0 < length (words_in a.memories.items m) → IsMarked b m (Some (ad, v)) n
marked_so a b m n ad v g less there lies = record {
  within = slice_get_within b.memories.items n (slice_set (words_in a.memories.items m) ad.0 v) there;
  words = λ k. ap (λ ws. slice_index ws k) words_are
      ∙ set_put (words_in b.memories.items m) ad.0 v k
      (subst (λ ws. ad.0 < length ws) (sym (words_still a b g m less)) lies);
  size = ap length words_are ∙ length-set (words_in b.memories.items m) ad.0 v;
}
  where
    words_are : words_in b.memories.items n ≡ slice_set (words_in b.memories.items m) ad.0 v
    words_are = ap some_words there ∙ ap (λ ws. slice_set ws ad.0 v) (sym (words_still a b g m less))

pub unmarked : (a b : PartsOf) → IsGrown a b → (m n : ℕ) (marks : Option (Addr × ℕ)) → m < length a.memories.items
    → IsMarked a m marks n → IsMarked b m marks n
unmarked a b g m n marks less is = record {
  within = prefix_within a.memories.items b.memories.items n g.memories is.within;
  words = λ k. ap (λ ws. slice_index ws k) (words_still a b g n is.within) ∙ is.words k
      ∙ ap (λ ws. marked marks (λ j. slice_index ws j) k) (sym (words_still a b g m less));
  size = ap length (words_still a b g n is.within) ∙ is.size ∙ ap length (sym (words_still a b g m less));
}
