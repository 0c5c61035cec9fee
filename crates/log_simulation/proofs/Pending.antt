-- Who owns the lock of a thread's pending entry, by the words.
use Rattle.std.proofs.Common.{◌≡◌, ℕ, zero, suc, ◌+◌, ◌<◌, ◌≤◌, ◌==◌, ◌&&◌, Bool, false, List, [], ◌∷◌, length}
use Rattle.std.proofs.Common.{refl, ap, sym, ◌∙◌, arith}
use Rattle.std.specs.Prelude.{not, slice_index}
use Rattle.std.proofs.lemmas.Bool.{eq-eqb, ne_eqb}
use Rattle.words.specs.LockWord.{owner_of}
use Rattle.protocol.specs.Word.{owner}

-- what the pending word and the lock word tell
abbrev pub Owns : (word : ℕ → ℕ) → (t e : ℕ) → Bool
Owns word t e = not (e == 0) && (owner (word (e + 1)) == t)

pub none_pending : (word : ℕ → ℕ) (t e : ℕ) → e ≡ 0 → false ≡ Owns word t e
none_pending word t e none =
    ap (λ b. not b && (owner (word (e + 1)) == t)) (sym (eq-eqb e 0 none))

past : (words : List ℕ) (a : ℕ) → length words ≤ a → slice_index words a ≡ 0
past [] a h = refl
past (w ∷ ws) zero h = absurd (omega (arith, h))
past (w ∷ ws) (suc a) h = past ws a (omega (arith, h))

pub past_pending : (words : List ℕ) (t e : ℕ) → e ≡ 4294967295 → length words < 4294967296 → 0 < t
    → false ≡ Owns (slice_index words) t e
unfolding owner
past_pending words t e last few some =
    let none : slice_index words (e + 1) ≡ 0 = past words (e + 1) (omega (arith, last, few)) in
    sym (ap (λ b. not b && (owner (slice_index words (e + 1)) == t)) (ne_eqb e 0 (λ z. absurd (omega (arith, last, z))))
    ∙ ap (λ w. owner w == t) none ∙ ne_eqb 0 t (λ z. absurd (omega (arith, some, z))))

pub owns_so : (word : ℕ → ℕ) (t e o : ℕ) → (e ≡ 0 → ⊥) → o ≡ owner_of (word (e + 1)) → (o == t) ≡ Owns word t e
unfolding owner
owns_so word t e o some tid =
    ap (λ n. n == t) tid ∙ sym (ap (λ b. not b && (owner (word (e + 1)) == t)) (ne_eqb e 0 some))
