-- Bytes of one line, and the place just after them.
use Rattle.std.proofs.Common.{◌≡◌, ◌≢◌, ℕ, zero, suc, ◌+◌, ◌<◌, ◌≤◌, Bool, false, cond, List, [], ◌∷◌, ◌++◌, length}
use Rattle.std.proofs.Common.{take, get_or, eqb, refl, sym, ap, ◌∙◌, subst, arith, add-zero}
use Rattle.std.specs.List.{prefix_len}
use Rattle.std.proofs.lemmas.Bool.{both_ways, ne_eqb}
use Rattle.std.proofs.lemmas.List.Sums.{prefix_len-le-length, prefix_len_passes}
use Rattle.scanner.specs.declared.token.Place.{Place}
use Rattle.scanner.specs.Places.{place_after, next_place}
use Rattle.scanner.specs.Steps.{OnOneLine}

-- bytes that pass a test which a line feed doesn't pass
pub prefix_on_line : (p : ℕ → Bool) (bs : List ℕ) (n : ℕ) → n ≡ prefix_len p bs → p 10 ≡ false → OnOneLine bs n
prefix_on_line p bs n is feed = subst (OnOneLine bs) (sym is) (record {
  within = prefix_len-le-length p bs;
  no_feed = λ k below e. both_ways _ feed (ap p (sym e) ∙ prefix_len_passes p bs k 0 below);
})

-- bytes of one line are so many columns
pub line_place : (p : Place) (bs : List ℕ) (n : ℕ) → n ≤ length bs → ((k : ℕ) → k < n → get_or bs k 0 ≢ 10)
    → place_after p (take n bs) ≡ record { line = p.line; column = p.column + n }
line_place p bs zero within no_feed = ap (λ c. record { line = p.line; column = c }) (sym (add-zero p.column))
line_place p [] (suc n) within no_feed = absurd (omega arith)
line_place p (b ∷ bs) (suc n) within no_feed =
    let other : eqb b 10 ≡ false = ne_eqb b 10 (no_feed 0 (omega arith)) in
    let passed : next_place p b ≡ record { line = p.line; column = p.column + 1 } =
    ap (λ v. cond v (record { line = p.line + 1; column = 1 }) (record { line = p.line; column = p.column + 1 }))
    other in
    let columns : p.column + 1 + n ≡ p.column + suc n = omega arith in
    ap (λ q. place_after q (take n bs)) passed
    ∙ line_place (record { line = p.line; column = p.column + 1 }) bs n (omega arith)
    (λ k below. no_feed (suc k) (omega arith))
    ∙ ap (λ c. record { line = p.line; column = c }) columns

-- the place after bytes and then others
pub place_after-append : (p : Place) (xs ys : List ℕ) → place_after p (xs ++ ys) ≡ place_after (place_after p xs) ys
place_after-append p [] ys = refl
place_after-append p (x ∷ xs) ys = place_after-append (next_place p x) xs ys
