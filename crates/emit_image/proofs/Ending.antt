-- Comments of emitted C end where they were written to end.
use Rattle.std.proofs.Common.{◌≡◌, ◌<◌, ◌+◌, ◌%◌, ◌^◌, ℕ, Bool, true, false, List, [], ◌∷◌, ◌++◌, codes, map, nat_eq, refl, ap, ◌∙◌, arith, rules, tests}
use Rattle.std.specs.Prelude.{⊤, if◌then◌else◌}
use Rattle.std.specs.Fmt.{decimal}
use Rattle.std.proofs.lemmas.Fmt.{decimal_by_steps}
use Rattle.std.proofs.lemmas.List.{append_assoc}
use Rattle.emit_image.specs.Comments.{behind_comment, comment, is_joined, is_questioned, shown}

-- a byte that is no line feed, no backslash and no question mark
record IsHarmless (b : ℕ) : Type 0 where
  pub feed : nat_eq b 10 ≡ false
  pub backslash : nat_eq b 92 ≡ false
  pub question : nat_eq b 63 ≡ false

-- only such bytes
abbrev AreHarmless : List ℕ → Type 0
AreHarmless [] = ⊤
AreHarmless (b ∷ bs) = IsHarmless b × AreHarmless bs

join_harmless : (xs ys : List ℕ) → AreHarmless xs → AreHarmless ys → AreHarmless (xs ++ ys)
join_harmless [] ys h k = k
join_harmless (x ∷ xs) ys h k = (h.0, join_harmless xs ys h.1 k)

either : (c x y z : Bool) → x ≡ z → y ≡ z → (if c then x else y) ≡ z
either true x y z h k = h
either false x y z h k = k

unquestioned : (line : List ℕ) → AreHarmless line → is_questioned line ≡ false
unquestioned [] h = refl
unquestioned (a ∷ []) h = refl
unquestioned (a ∷ b ∷ bs) h = rw h.0.question refl

-- such a line isn't joined to the next one
unjoined : (line : List ℕ) → AreHarmless line → is_joined line ≡ false
unjoined [] h = refl
unjoined (b ∷ bs) h =
    rw h.0.backslash
    (either (nat_eq b 47) _ _ _ (unquestioned bs h.1) (either (nat_eq b 32) _ _ _ (unjoined bs h.1) refl))

-- a comment of such bytes ends with its line
ends : (line bs rest : List ℕ) → AreHarmless line → AreHarmless bs → behind_comment line (bs ++ 10 ∷ rest) ≡ rest
ends line [] rest h k = rw (unjoined line h) refl
ends line (b ∷ bs) rest h k = rw k.0.feed (ends (b ∷ line) bs rest (k.0, h) k.1)

shown_harmless : (b : ℕ) → IsHarmless (shown b)
shown_harmless b = record {
  feed = search (rules, tests);
  backslash = search (rules, tests);
  question = search (rules, tests);
}

shown_all : (bs : List ℕ) → AreHarmless (map shown bs)
shown_all [] = tt
shown_all (b ∷ bs) = (shown_harmless b, shown_all bs)

digit_harmless : (n : ℕ) → n < 10 → IsHarmless (48 + n)
digit_harmless n h = record {
  feed = search (rules, tests);
  backslash = search (rules, tests);
  question = search (rules, tests);
}

decimal_harmless : (n : ℕ) → n < 2 ^ 64 → AreHarmless (decimal n)
decimal_harmless n h =
    decimal_by_steps (λ n ds. AreHarmless ds) (λ n few. (digit_harmless n few, tt))
    (λ n ds many k. join_harmless ds _ k (digit_harmless (n % 10) (omega arith), tt)) n h

-- whatever a line has, and whatever follows
pub comment_ends : (number : ℕ) (line rest : List ℕ) → number < 2 ^ 64
    → behind_comment [] (comment number line ++ rest) ≡ rest
comment_ends number line rest h =
    let front = codes "// " ++ decimal number ++ codes ": " ++ map shown line in
    let harmless : AreHarmless front =
    join_harmless (codes "// " ++ decimal number ++ codes ": ") (map shown line)
    (join_harmless (codes "// " ++ decimal number) (codes ": ")
    (join_harmless (codes "// ") (decimal number) (search rules) (decimal_harmless number h)) (search rules))
    (shown_all line) in
    ap (behind_comment []) (append_assoc front (codes "\n") rest) ∙ ends [] front rest tt harmless
