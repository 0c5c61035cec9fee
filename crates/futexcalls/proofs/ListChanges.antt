-- What the act of a call leaves of the lists of all addresses.
use Rattle.std.proofs.Common.{◌≡◌, ◌≢◌, ℕ, cond, eqb, List, [], ◌++◌, length, take, drop, sym, ap, ◌∙◌, inl, inr}
use Rattle.std.proofs.Math.Path.{fun_ext}
use Rattle.std.proofs.lemmas.Bool.{cases_eq, eq-eqb, ne_eqb, cond-true, cond-false}
use Rattle.words.specs.Updates.{put}
use Rattle.buckets.proofs.Takes.{drop-take_length}
use Rattle.futexcalls.specs.PieceResults.{moved_on}

-- a value that a changed function has, at the place of the change and elsewhere
pub at_put : {A : Type 0} → (f : ℕ → A) (i : ℕ) (v : A) (j : ℕ) (r : A) → (j ≡ i → r ≡ v) → (j ≢ i → r ≡ f j)
    → r ≡ put f i v j
at_put f i v j r here there = elim (cases_eq j i) [
  | inl e ↦ here e ∙ sym (cond-true _ _ _ (eq-eqb j i e))
  | inr ne ↦ there ne ∙ sym (cond-false _ _ _ (ne_eqb j i ne))
]

pub one_list : (q q' : ℕ → List ℕ) (a : ℕ) (xs : List ℕ) → q' a ≡ xs → ((b : ℕ) → b ≢ a → q' b ≡ q b) → q' ≡ put q a xs
one_list q q' a xs here others = fun_ext (λ b. at_put q a xs b (q' b) (λ e. ap q' e ∙ here) (others b))

-- the lists behind a move
pub lists_moved : (q q' : ℕ → List ℕ) (a b n : ℕ) (moved : List ℕ)
    → moved ≡ cond (eqb a b) [] (take n (q a)) → q' a ≡ drop (length moved) (q a) → q' b ≡ q b ++ moved
    → ((d : ℕ) → d ≢ a → d ≢ b → q' d ≡ q d) → (a ≡ b → q' ≡ q) → q' ≡ moved_on q a b n
lists_moved q q' a b n moved is rest last others same = elim (cases_eq a b) [
  | inl e ↦ same e ∙ sym (cond-true _ _ _ (eq-eqb a b e))
  | inr ne ↦
      let some : moved ≡ take n (q a) = is ∙ cond-false _ _ _ (ne_eqb a b ne) in
      fun_ext (λ d. at_put (put q a (drop n (q a))) b (q b ++ take n (q a)) d (q' d)
      (λ e. ap q' e ∙ last ∙ ap (λ xs. q b ++ xs) some)
      (λ nb. at_put q a (drop n (q a)) d (q' d)
      (λ e. ap q' e ∙ rest ∙ ap (λ xs. drop (length xs) (q a)) some ∙ sym (drop-take_length n (q a)))
      (λ na. others d na nb))) ∙ sym (cond-false _ _ _ (ne_eqb a b ne))
]
