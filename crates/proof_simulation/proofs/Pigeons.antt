-- A list without repetition of numbers below n has no more than n elements.
use Rattle.std.proofs.Common.{◌≡◌, ◌≢◌, ℕ, zero, suc, ◌+◌, ◌<◌, ◌≤◌, true, false, ◌==◌, ◌||◌, if◌then◌else◌, List, []}
use Rattle.std.proofs.Common.{◌∷◌, length, inl, inr, refl, sym, ap, ◌∙◌, subst, arith}
use Rattle.std.proofs.lemmas.Bool.{cases_eq, cases_Bool, false≢true, eq-eqb, ne_eqb, cond-true, cond-false, or_left}
use Rattle.std.proofs.lemmas.Bool.{or_right}
use Rattle.protocol.specs.World.{mem, Distinct}

without : ℕ → List ℕ → List ℕ
without n [] = []
without n (x ∷ xs) = if x == n then without n xs else x ∷ without n xs

without_this : (n x : ℕ) (xs : List ℕ) → x ≡ n → without n (x ∷ xs) ≡ without n xs
unfolding without
without_this n x xs e = cond-true (x == n) _ _ (eq-eqb x n e)

without_other : (n x : ℕ) (xs : List ℕ) → x ≢ n → without n (x ∷ xs) ≡ x ∷ without n xs
unfolding without
without_other n x xs o = cond-false (x == n) _ _ (ne_eqb x n o)

-- its elements are among the others
kept : (n : ℕ) (xs : List ℕ) (u : ℕ) → mem u (without n xs) ≡ true → (mem u xs ≡ true) × (u ≢ n)
unfolding without
kept n [] u h = absurd (false≢true h)
kept n (x ∷ xs) u h = elim (cases_eq x n) [
  | inl e ↦
      let k = kept n xs u (ap (mem u) (sym (without_this n x xs e)) ∙ h) in
      (or_right (u == x) (mem u xs) k.0, k.1)
  | inr o ↦ by_head (λ g. kept n xs u g) (ap (mem u) (sym (without_other n x xs o)) ∙ h) o
]
  where
    by_head : (mem u (without n xs) ≡ true → (mem u xs ≡ true) × (u ≢ n)) → mem u (x ∷ without n xs) ≡ true → x ≢ n
        → (mem u (x ∷ xs) ≡ true) × (u ≢ n)
    by_head again g o = elim (cases_eq u x) [
      | inl q ↦ (or_left (u == x) (mem u xs) (eq-eqb u x q), λ z. o (sym q ∙ z))
      | inr r ↦
          let k = again (sym (ap (λ b. b || mem u (without n xs)) (ne_eqb u x r)) ∙ g) in
          (or_right (u == x) (mem u xs) k.0, k.1)
    ]

absent : (n x : ℕ) (xs : List ℕ) → mem x xs ≡ false → mem x (without n xs) ≡ false
absent n x xs h = elim (cases_Bool (mem x (without n xs))) [
  | inl y ↦ absurd (false≢true (sym h ∙ (kept n xs x y).0))
  | inr z ↦ z
]

still_distinct : (n : ℕ) (xs : List ℕ) → Distinct xs → Distinct (without n xs)
unfolding without
still_distinct n [] d = tt
still_distinct n (x ∷ xs) d = elim (cases_eq x n) [
  | inl e ↦ subst Distinct (sym (without_this n x xs e)) (still_distinct n xs d.1)
  | inr o ↦ subst Distinct (sym (without_other n x xs o)) (absent n x xs d.0, still_distinct n xs d.1)
]

-- no element is lost that is another
same_length : (n : ℕ) (xs : List ℕ) → mem n xs ≡ false → length xs ≤ length (without n xs)
unfolding without
same_length n [] h = omega arith
same_length n (x ∷ xs) h = elim (cases_eq x n) [
  | inl e ↦ absurd (false≢true (sym h ∙ or_left (n == x) (mem n xs) (eq-eqb n x (sym e))))
  | inr o ↦
      let rest : mem n xs ≡ false = sym (ap (λ b. b || mem n xs) (ne_eqb n x (λ z. o (sym z)))) ∙ h in
      let less = same_length n xs rest in
      let l = ap length (without_other n x xs o) in
      omega (arith, less, l)
]

one_less : (n : ℕ) (xs : List ℕ) → Distinct xs → length xs ≤ 1 + length (without n xs)
unfolding without
one_less n [] d = omega arith
one_less n (x ∷ xs) d = elim (cases_eq x n) [
  | inl e ↦
      let less = same_length n xs (subst (λ (y : ℕ). mem y xs ≡ false) e d.0) in
      let l = ap length (without_this n x xs e) in
      omega (arith, less, l)
  | inr o ↦
      let less = one_less n xs d.1 in
      let l = ap length (without_other n x xs o) in
      omega (arith, less, l)
]

pub short : (n : ℕ) (xs : List ℕ) → Distinct xs → ((u : ℕ) → mem u xs ≡ true → u < n) → length xs ≤ n
short zero [] d below = omega arith
short zero (x ∷ xs) d below =
    absurd (omega (arith, below x (or_left (x == x) (mem x xs) (eq-eqb x x refl))))
short (suc n) xs d below =
    let less = one_less n xs d in
    let rest = short n (without n xs) (still_distinct n xs d) (λ u h.
    let k = kept n xs u h in
    let b = below u k.0 in
    let o = k.1 in
    omega (arith, b, o)) in
    omega (arith, less, rest)
