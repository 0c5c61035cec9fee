-- A number that is read is the number that was spelled, and a number that is spelled is read.
use Rattle.std.proofs.Common.{◌≡◌, ℕ, zero, suc, ◌+◌, ◌-◌, ◌*◌, ◌/◌, ◌%◌, ◌<◌, ◌≤◌, false, cond, ltb, eqb, inl, inr}
use Rattle.std.proofs.Common.{List, [], ◌∷◌, ◌++◌, Result, Ok, Err, refl, sym, ap, subst, ◌∙◌, append_assoc, arith}
use Rattle.std.proofs.lemmas.Bool.{cases_lt, ltb-true, ltb-false, lt-ltb, le-ltb, eqb-false, ne_eqb}
use Rattle.isa.specs.declared.fault.DecodeFault.{DecodeFault}
use Rattle.isa.specs.declared.fault.DecodeFault.TheVariants.{BadInstr, Limit}
use Rattle.isa.specs.Numbers.{groups}
use Rattle.isa.specs.Reading.{◌>>=◌, groups_at}
use Rattle.isa.proofs.Parts.{bind_ok, guard_ok, chosen, ok_is, IsBytes, IsBytes-rest, Takes}

-- how far a number with so many bytes before its last can go
abbrev pub reach : ℕ → ℕ
reach zero = 16
reach (suc more) = 128 * reach more

reach-le : (more : ℕ) → 16 ≤ reach more
reach-le zero = omega arith
reach-le (suc more) = omega (arith, reach-le more)

-- a byte that goes on, and what stands behind it
groups-high : (more b high : ℕ) → 128 ≤ b → b < 256 → 0 < high → groups (suc more) (b - 128 + 128 * high)
    ≡ b ∷ groups more high
unfolding groups
groups-high more b high from below some =
    let n : ℕ = b - 128 + 128 * high in
    let large : ltb n 128 ≡ false = le-ltb n 128 (omega arith) in
    let low : n % 128 + 128 ≡ b = omega arith in
    let others : n / 128 ≡ high = omega arith in
    rw (large, low, others) refl

pub groups_take : (more : ℕ) (bytes : List ℕ) (x : ℕ × List ℕ) → IsBytes bytes → groups_at more bytes ≡ Ok x → Takes
    bytes (groups more x.0) x.1 × (x.0 < reach more)
unfolding groups_at groups
groups_take zero [] x fits e = absurd cc
groups_take zero (b ∷ bytes) x fits e =
    let g = guard_ok (ltb 15 b) Limit (b, bytes) x e in
    subst (λ (y : ℕ × List ℕ). Takes (b ∷ bytes) (groups zero y.0) y.1 × (y.0 < 16)) g.1
    (record { parts = refl; rest_fits = IsBytes-rest b bytes fits }, omega (arith, ltb-false 15 b g.0))
groups_take (suc more) [] x fits e = absurd cc
groups_take (suc more) (b ∷ bytes) x fits e =
    let goes_on : Result (ℕ × List ℕ) DecodeFault = groups_at more bytes >>= λ high. cond (eqb high.0 0)
    (Err BadInstr) (Ok (b - 128 + 128 * high.0, high.1)) in
    elim (chosen (ltb b 128) (Ok (b, bytes)) goes_on (Ok x) e) [
      | inl w ↦
          let last : groups (suc more) b ≡ b ∷ [] = rw w.0 refl in
          let taken : Takes (b ∷ bytes) (groups (suc more) b) bytes = record
          { parts = rw last refl; rest_fits = IsBytes-rest b bytes fits } in
          let fits_in : b < 128 * reach more = omega (arith, ltb-true b 128 w.0, reach-le more) in
          subst (λ (y : ℕ × List ℕ). Takes (b ∷ bytes) (groups (suc more) y.0) y.1 × (y.0 < 128 * reach more))
          (ok_is (b, bytes) x w.1) (taken, fits_in)
      | inr w ↦
          let a = bind_ok (groups_at more bytes) (λ high. cond (eqb high.0 0) (Err BadInstr)
          (Ok (b - 128 + 128 * high.0, high.1))) x w.1 in
          let g = guard_ok (eqb a.0.0 0) BadInstr (b - 128 + 128 * a.0.0, a.0.1) x a.2 in
          let above = groups_take more bytes a.0 (IsBytes-rest b bytes fits) a.1 in
          let from : 128 ≤ b = ltb-false b 128 w.0 in
          let some : a.0.0 ≡ 0 → ⊥ = eqb-false a.0.0 0 g.0 in
          let text : groups (suc more) (b - 128 + 128 * a.0.0) ≡ b ∷ groups more a.0.0 = groups-high more b a.0.0
          from (fits 0) (omega (arith, some)) in
          let taken : Takes (b ∷ bytes) (groups (suc more) (b - 128 + 128 * a.0.0)) a.0.1 = record
          { parts = rw text (ap (λ (t : List ℕ). b ∷ t) above.0.parts); rest_fits = above.0.rest_fits } in
          let fits_in : b - 128 + 128 * a.0.0 < 128 * reach more = omega (arith, above.1, fits 0) in
          subst (λ (y : ℕ × List ℕ). Takes (b ∷ bytes) (groups (suc more) y.0) y.1 × (y.0 < 128 * reach more)) g.1
          (taken, fits_in)
    ]

pub groups_again : (more n : ℕ) (rest : List ℕ) → n < reach more → groups_at more (groups more n ++ rest) ≡ Ok (n, rest)
unfolding groups_at groups
groups_again zero n rest lt = rw (le-ltb 15 n (omega arith)) refl
groups_again (suc more) n rest lt =
    elim (cases_lt n 128) [
      | inl small ↦ rw (lt-ltb n 128 small) (rw (lt-ltb n 128 small) refl)
      | inr large ↦
          let goes_on : ltb (n % 128 + 128) 128 ≡ false = le-ltb (n % 128 + 128) 128 (omega arith) in
          let some : eqb (n / 128) 0 ≡ false = ne_eqb (n / 128) 0 (λ e. omega arith) in
          let whole : n % 128 + 128 - 128 + 128 * (n / 128) ≡ n = omega arith in
          rw (le-ltb n 128 large) (rw (goes_on, groups_again more (n / 128) rest (omega arith), some, whole) refl)
    ]

-- a loop that writes the bytes of a number: one that goes on
pub groups_next : (more rest : ℕ) (out whole : List ℕ) → 128 ≤ rest → rest < reach more → out ++ groups more rest
    ≡ whole
    → (m : ℕ) × (rest / 128 < reach m) × ((out ++ (rest % 128 + 128) ∷ []) ++ groups m (rest / 128) ≡ whole)
unfolding groups
groups_next zero rest out whole large lt so_far = absurd (omega arith)
groups_next (suc more) rest out whole large lt so_far =
    let text : groups (suc more) rest ≡ (rest % 128 + 128) ∷ groups more (rest / 128) = rw (le-ltb rest 128 large)
    refl in (
      more,
      omega arith,
      append_assoc out ((rest % 128 + 128) ∷ []) (groups more (rest / 128))
          ∙ sym (ap (λ (t : List ℕ). out ++ t) text) ∙ so_far,
    )

-- and the last
pub groups_last : (more rest : ℕ) → rest < 128 → groups more rest ≡ rest ∷ []
unfolding groups
groups_last zero rest small = refl
groups_last (suc more) rest small = rw (lt-ltb rest 128 small) refl
