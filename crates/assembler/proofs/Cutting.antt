-- Texts that are cut at a byte are cut in one way.
use Rattle.std.proofs.Common.{◌≡◌, ◌≢◌, ◌<◌, ◌≤◌, ℕ, zero, suc, List, [], ◌∷◌, ◌++◌, length, get_or, take, drop}
use Rattle.std.proofs.Common.{refl, ap, sym, subst, arith}
use Rattle.assembler.specs.Cuts.{NoByte, AtByte}

pub cut_once : (b : ℕ) (xs ys r s : List ℕ) → NoByte b xs → NoByte b ys → AtByte b r → AtByte b s
    → xs ++ r ≡ ys ++ s → (xs ≡ ys) × (r ≡ s)
cut_once b [] [] r s none none' at at' e = (refl, e)
cut_once b [] (y ∷ ys) r s none none' at at' e =
    absurd (none'.0 (subst (AtByte b) e at))
cut_once b (x ∷ xs) [] r s none none' at at' e =
    absurd (none.0 (subst (AtByte b) (sym e) at'))
cut_once b (x ∷ xs) (y ∷ ys) r s none none' at at' e =
    let head : x ≡ y = ap (λ l. get_or l 0 0) e in
    let rest = cut_once b xs ys r s none.1 none'.1 at at' (ap (drop 1) e) in
    ((λ i. head i ∷ rest.0 i), rest.1)

pub none_append : (b : ℕ) (xs ys : List ℕ) → NoByte b xs → NoByte b ys → NoByte b (xs ++ ys)
none_append b [] ys none none' = none'
none_append b (x ∷ xs) ys none none' = (none.0, none_append b xs ys none.1 none')

-- all bytes are above a space
abbrev pub Plain : List ℕ → Type 0
Plain [] = Unit {0}
Plain (x ∷ xs) = (32 < x) × Plain xs

pub none_of_plain : (b : ℕ) (xs : List ℕ) → b ≤ 32 → Plain xs → NoByte b xs
none_of_plain b [] small plain = tt
none_of_plain b (x ∷ xs) small plain =
    let above = plain.0 in
    ((λ (e : x ≡ b). absurd (omega (arith, e, above, small))), none_of_plain b xs small plain.1)

pub plain_append : (xs ys : List ℕ) → Plain xs → Plain ys → Plain (xs ++ ys)
plain_append [] ys p q = q
plain_append (x ∷ xs) ys p q = (p.0, plain_append xs ys p.1 q)

-- a place before which no byte passes
pub none_before : (b : ℕ) (xs : List ℕ) (n : ℕ) → n ≤ length xs
    → ((k : ℕ) → k < n → get_or xs k 0 ≢ b) → NoByte b (take n xs)
none_before b xs zero within other = tt
none_before b [] (suc n) within other = tt
none_before b (x ∷ xs) (suc n) within other =
    (other 0 (omega arith), none_before b xs n (omega (arith, within)) (λ k less. other (suc k) (omega (arith, less))))

pub at_there : (b : ℕ) (xs : List ℕ) (n : ℕ) → (n < length xs → get_or xs n 0 ≡ b) → AtByte b (drop n xs)
at_there b [] zero is = tt
at_there b [] (suc n) is = tt
at_there b (x ∷ xs) zero is = is (omega arith)
at_there b (x ∷ xs) (suc n) is = at_there b xs n (λ less. is (omega (arith, less)))

pub none_anywhere : (b : ℕ) (xs : List ℕ) → ((k : ℕ) → k < length xs → get_or xs k 0 ≢ b) → NoByte b xs
none_anywhere b [] other = tt
none_anywhere b (x ∷ xs) other =
    (other 0 (omega arith), none_anywhere b xs (λ k less. other (suc k) (omega (arith, less))))
