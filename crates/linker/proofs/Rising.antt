-- Pieces by rising number that are those of a program have all numbers below their count.
use Rattle.std.proofs.Common.{◌≡◌, ◌<◌, ◌≤◌, ◌+◌, ◌-◌, ◌⊎◌, ℕ, zero, suc, List, [], ◌∷◌, true, false, refl, sym, ap}
use Rattle.std.proofs.Common.{◌∙◌, length, map, get_or, inl, inr, arith}
use Rattle.std.specs.Prelude.{cond, nat_le, IsPermutation}
use Rattle.std.specs.List.{All}
use Rattle.std.specs.List.Sorted.{IsNonDecreasingBy}
use Rattle.std.proofs.lemmas.Bool.{eq-eqb}
use Rattle.std.proofs.lemmas.Bool.Decides.{leb_tells}
use Rattle.std.proofs.lemmas.List.Elements.{All-get_or, All-from_get_or}
use Rattle.std.proofs.lemmas.List.Sorted.{All-permutation, IsPermutation-map, IsPermutation-trans, IsPermutation-sym}
use Rattle.std.proofs.lemmas.List.Sorted.{length_permutation, IsNonDecreasingBy-short, IsNonDecreasingBy-from_default}
use Rattle.program.specs.Trees.{Program}
use Rattle.codegen.specs.declared.code_piece.CodePiece.{CodePiece}
use Rattle.codegen.specs.Generated.{Piece, piece_of, unlinked_pieces}
use Rattle.linker.specs.Failures.{IsStray}
use Rattle.linker.specs.Linked.{are_from}
use Rattle.linker.proofs.Orders.{number_at, nothing, program_numbered, pieces_length}

-- numbers that rise, each below the count, of which none is missing, rise by one
module _ (a : ℕ → ℕ) (count : ℕ) (rises : (i j : ℕ) → i ≤ j → j < count → a i ≤ a j)
    (below : (i : ℕ) → i < count → a i < count) (reached : (v : ℕ) → v < count → (j : ℕ) × (j < count) × (a j ≡ v))
  where
    step : (i : ℕ) → i + 1 < count → a (i + 1) ≤ a i + 1
    step i lt = by_cases (compare (a i + 1) count)
      where
        compare : (n m : ℕ) → (n < m) ⊎ (m ≤ n)
        compare n m = turned n m (leb_tells m n)
          where
            turned : (n m : ℕ) → ((nat_le m n ≡ true) × (m ≤ n)) ⊎ ((nat_le m n ≡ false) × (n < m)) → (n < m) ⊎ (m ≤ n)
            turned n m (inl h) = inr h.1
            turned n m (inr h) = inl h.1

        by_cases : (a i + 1 < count) ⊎ (count ≤ a i + 1) → a (i + 1) ≤ a i + 1
        by_cases (inr over) = let b = below (i + 1) lt in omega (arith, b, over)
        by_cases (inl under) =
            let r = reached (a i + 1) under in
            let is = r.2 in
            near r.0 r.1 is (compare i r.0)
          where
            near : (j : ℕ) → j < count → a j ≡ a i + 1 → (i < j) ⊎ (j ≤ i) → a (i + 1) ≤ a i + 1
            near j lj e (inl after) = let h = rises (i + 1) j (omega (arith, after)) lj in omega (arith, h, e)
            near j lj e (inr before) = let h = rises j i before (omega (arith, lt)) in absurd (omega (arith, h, e))

    reach : (k i : ℕ) → i + k < count → a (i + k) ≤ a i + k
    reach zero i lt = let e : i + 0 ≡ i = omega arith in let h = ap a e in omega (arith, h)
    reach (suc k) i lt =
        let h = reach k i (omega (arith, lt)) in
        let s = step (i + k) (omega (arith, lt)) in
        let e : i + suc k ≡ i + k + 1 = omega arith in
        let same = ap a e in omega (arith, h, s, same)

    pub all_reached : (i : ℕ) → i < count → a i ≡ i
    all_reached i lt =
        let first = reached 0 (omega (arith, lt)) in
        let low = rises 0 first.0 (omega arith) first.1 in
        let zero_is = first.2 in
        let up = reach i 0 (omega (arith, lt)) in
        let e0 : 0 + i ≡ i = omega arith in
        let up_is = ap a e0 in
        let last = reached (count - 1) (omega (arith, lt)) in
        let last_is = last.2 in
        let last_lt = last.1 in
        let high = rises last.0 (count - 1) (omega (arith, last_lt)) (omega (arith, lt)) in
        let far = reach (count - 1 - i) i (omega (arith, lt)) in
        let e1 : i + (count - 1 - i) ≡ count - 1 = omega (arith, lt) in
        let far_is = ap a e1 in omega (arith, lt, low, zero_is, up, up_is, last_is, high, far, far_is)

from_numbers : (n count : ℕ) (xs : List Piece) (d : Piece) → count ≡ n + length xs
    → ((i : ℕ) → i < length xs → (get_or xs i d).number ≡ i + n) → are_from n count xs ≡ true
from_numbers n count [] d e h = eq-eqb n count (omega (arith, e))
from_numbers n count (x ∷ xs) d e h =
    let here = h 0 (omega arith) in
    ap (λ b. cond b (are_from (n + 1) count xs) false) (eq-eqb x.number n (omega (arith, here)))
    ∙ from_numbers (n + 1) count xs d (omega (arith, e))
    (λ i lt. let there = h (suc i) (omega (arith, lt)) in omega (arith, there))

-- pieces that rise, and are those with all numbers in another order
pub rising_numbered : (count : ℕ) (xs ys : List Piece) → length ys ≡ count → IsPermutation ys xs
    → are_from 0 count ys ≡ true → IsNonDecreasingBy (λ (x : Piece). x.number) xs → are_from 0 count xs ≡ true
rising_numbered count xs ys len s e rise =
    let same = length_permutation ys xs s in
    let a : ℕ → ℕ = λ i. (get_or xs i nothing).number in
    let P : Piece → Type 0 = λ z. (j : ℕ) × (j < length xs) × (get_or xs j nothing ≡ z) in
    let found : All P ys =
    All-permutation P xs ys (IsPermutation-sym ys xs s) (All-from_get_or P xs nothing (λ i lt. (i, lt, refl))) in
    let Q : Piece → Type 0 = λ z. z.number < count in
    let small : All Q xs =
    All-permutation Q ys xs s (All-from_get_or Q ys nothing
    (λ i lt. let at = number_at 0 count ys e i lt in omega (arith, at, lt, len))) in
    let reached : (v : ℕ) → v < count → (j : ℕ) × (j < count) × (a j ≡ v) = λ v lt.
    let r = All-get_or P ys v nothing (omega (arith, lt, len)) found in
    let at = number_at 0 count ys e v (omega (arith, lt, len)) in
    let lj = r.1 in
    let is = ap (λ (z : Piece). z.number) r.2 in (r.0, omega (arith, lj, same, len), omega (arith, is, at)) in
    from_numbers 0 count xs nothing (omega (arith, same, len))
    (λ i lt.
    let h =
    all_reached a count (λ i j le lt. rise i j nothing le (omega (arith, lt, same, len)))
    (λ i lt. All-get_or Q xs i nothing (omega (arith, lt, same, len)) small) reached i
    (omega (arith, lt, same, len)) in omega (arith, h))

-- the pieces of a program aren't stray
pub program_known : (p : Program) (pieces : List CodePiece) → IsPermutation (unlinked_pieces p) (map piece_of pieces)
    → IsStray (length p.procedures) pieces → ⊥
program_known p pieces s h =
    let all =
    IsPermutation-trans (unlinked_pieces p) (map piece_of pieces) (map piece_of h.sorted) s
    (IsPermutation-map piece_of pieces h.sorted h.same) in
    no (sym h.other ∙ rising_numbered (length p.procedures) (map piece_of h.sorted) (unlinked_pieces p)
    (pieces_length p 0 p.procedures) all (program_numbered p) h.rising)
  where
    no : false ≡ true → ⊥
    no e = cc

-- pieces rise by their numbers, however they are seen
pub rising_seen : (xs : List CodePiece) → IsNonDecreasingBy (λ (x : CodePiece). x.number) xs
    → IsNonDecreasingBy (λ (x : Piece). x.number) (map piece_of xs)
rising_seen [] h = IsNonDecreasingBy-short (λ (x : Piece). x.number) [] (omega arith)
rising_seen (x ∷ xs) h =
    IsNonDecreasingBy-from_default (λ (x : Piece). x.number) (map piece_of (x ∷ xs)) (piece_of x) (λ i j le lt.
    let l = many (x ∷ xs) in
    let k = h i j x le (omega (arith, lt, l)) in
    let u = ap (λ (z : Piece). z.number) (seen (x ∷ xs) i x) in
    let v = ap (λ (z : Piece). z.number) (seen (x ∷ xs) j x) in omega (arith, k, u, v))
  where
    many : (ys : List CodePiece) → length (map piece_of ys) ≡ length ys
    many [] = refl
    many (y ∷ ys) = ap suc (many ys)

    seen : (ys : List CodePiece) (i : ℕ) (d : CodePiece)
        → get_or (map piece_of ys) i (piece_of d) ≡ piece_of (get_or ys i d)
    seen [] i d = refl
    seen (y ∷ ys) zero d = refl
    seen (y ∷ ys) (suc i) d = seen ys i d
