-- Reading a number from its lowest byte on.
use Rattle.std.proofs.Common.{◌≡◌, ℕ, zero, suc, ◌+◌, ◌-◌, ◌*◌, ◌^◌, ◌%◌, ◌<◌, ◌≤◌, false, cond, eqb, inl, inr, List}
use Rattle.std.proofs.Common.{[], ◌∷◌, length, get_or, take, drop, add-one, length-drop, Result, Ok, Err, refl, sym}
use Rattle.std.proofs.Common.{ap, subst, ◌∙◌, arith}
use Rattle.std.proofs.Math.ListN.{drop_of_length-le}
use Rattle.std.proofs.Math.Nat.{pow-suc, mul-le-mul_right}
use Rattle.std.proofs.Math.Seq.{take-length}
use Rattle.std.proofs.lemmas.Bool.{cases_eq, lt-ltb, le-ltb, eq-eqb, ne_eqb}
use Rattle.isa.proofs.Parts.{opened}
use Rattle.isa.specs.declared.fault.DecodeFault.{DecodeFault}
use Rattle.isa.specs.declared.fault.DecodeFault.TheVariants.{Short, BadInstr, Limit}
use Rattle.isa.specs.Reading.{◌>>=◌, groups_at, number_at}

-- the number whose low part was read already, from what the bytes behind that give
abbrev pub with_low : ℕ → ℕ → ℕ → Result (ℕ × List ℕ) DecodeFault → Result (ℕ × List ℕ) DecodeFault
with_low zero low weight read = read
with_low (suc place) low weight read = read >>= λ high. cond (eqb high.0 0) (Err BadInstr)
    (Ok (low + weight * high.0, high.1))

pub record IsRead (bytes : List ℕ) (place low weight : ℕ) : Type 0 where
  pub few : place ≤ 4
  pub weight_is : weight ≡ 128 ^ place
  pub below : low < weight
  pub so_far : with_low place low weight (groups_at (4 - place) (drop place bytes)) ≡ number_at bytes

pub begins : (bytes : List ℕ) → IsRead bytes 0 0 1
begins bytes = record { few = omega arith; weight_is = refl; below = omega arith; so_far = refl }

-- a slice from a place on
pub rest_of : (bytes : List ℕ) (n : ℕ) → drop n bytes ≡ take (length bytes - n) (drop n bytes)
rest_of bytes n = sym (rw (← length-drop n bytes) (take-length (drop n bytes)))

-- before the first byte there is no low part
abbrev IsFirst : ℕ → ℕ → ℕ → Type 0
IsFirst place low weight = place ≡ 0 → (low ≡ 0) × (weight ≡ 1)

is_first : (bytes : List ℕ) (place low weight : ℕ) → IsRead bytes place low weight → IsFirst place low weight
is_first bytes place low weight read zeroth =
    let one : weight ≡ 1 = read.weight_is ∙ ap (λ n. 128 ^ n) zeroth in
    (omega (arith, read.below), one)

with_low-err : (place low weight : ℕ) (fault : DecodeFault) → with_low place low weight (Err fault) ≡ Err fault
with_low-err zero low weight fault = refl
with_low-err (suc place) low weight fault = refl

groups-short : (more : ℕ) → groups_at more [] ≡ Err Short
unfolding groups_at
groups-short zero = refl
groups-short (suc more) = refl

groups-last : (more b : ℕ) (rest : List ℕ) → b < 128 → (more ≡ 0 → b ≤ 15) → groups_at more (b ∷ rest) ≡ Ok (b, rest)
unfolding groups_at
groups-last zero b rest small last = rw (le-ltb 15 b (last refl)) refl
groups-last (suc more) b rest small last = rw (lt-ltb b 128 small) refl

with_low-last : (place low weight b : ℕ) (rest : List ℕ) → IsFirst place low weight → b < 128 → (b ≡ 0 → place ≡ 0)
    → with_low place low weight (Ok (b, rest)) ≡ Ok (low + b % 128 * weight, rest)
with_low-last zero low weight b rest first small some =
    let f = first refl in
    let same : b ≡ low + b % 128 * weight = rw (f.0, f.1) (omega arith) in
    ap (λ (n : ℕ). Ok (n, rest)) same
with_low-last (suc place) low weight b rest first small some =
    let other : eqb b 0 ≡ false = ne_eqb b 0 (λ e. omega (arith, some e)) in
    let whole : b % 128 ≡ b = omega arith in
    let same : low + weight * b ≡ low + b % 128 * weight = rw whole (omega arith) in
    rw other (ap (λ (n : ℕ). Ok (n, rest)) same)

spread : (low weight c high : ℕ) → low + weight * (c + 128 * high) ≡ low + c * weight + weight * 128 * high
spread low weight c high = omega arith

-- a byte that goes on joins the low part
with_low-high : (place low weight b : ℕ) (read : Result (ℕ × List ℕ) DecodeFault) → IsFirst place low weight → 128 ≤
    b → b < 256
    → with_low place low weight (read >>= λ high. cond (eqb high.0 0) (Err BadInstr)
    (Ok (b - 128 + 128 * high.0, high.1))) ≡ with_low (suc place) (low + b % 128 * weight) (weight * 128) read
with_low-high zero low weight b (Err e) first from below = refl
with_low-high (suc place) low weight b (Err e) first from below = refl
with_low-high zero low weight b (Ok high) first from below =
    let f = first refl in
    let same : b - 128 + 128 * high.0 ≡ low + b % 128 * weight + weight * 128 * high.0 = rw (f.0, f.1) (omega arith) in
    ap (λ (n : ℕ). cond (eqb high.0 0) (Err BadInstr) (Ok (n, high.1))) same
with_low-high (suc place) low weight b (Ok high) first from below =
    elim (cases_eq high.0 0) [
      | inl none ↦ rw (eq-eqb high.0 0 none) refl
      | inr some ↦
          let n : ℕ = b - 128 + 128 * high.0 in
          let other : eqb n 0 ≡ false = ne_eqb n 0 (λ e. some (omega arith)) in
          let low_part : b % 128 ≡ b - 128 = omega arith in
          let same : low + weight * n ≡ low + b % 128 * weight + weight * 128 * high.0 = rw low_part
          (spread low weight (b - 128) high.0) in
          rw (ne_eqb high.0 0 some) (rw other (ap (λ (m : ℕ). Ok (m, high.1)) same))
    ]

below_next : (low weight b : ℕ) → low < weight → low + b % 128 * weight < weight * 128
below_next low weight b lt =
    let most : b % 128 ≤ 127 = omega arith in
    omega (arith, lt, mul-le-mul_right weight most)

-- one more byte that goes on
pub goes_on : (bytes : List ℕ) (place low weight added : ℕ) → IsRead bytes place low weight → place < length bytes
    → (place ≡ 4 → get_or bytes place 0 ≤ 15) → 128 ≤ get_or bytes place 0 → get_or bytes place 0 < 256
    → added ≡ get_or bytes place 0 % 128 → IsRead bytes (place + 1) (low + added * weight) (weight * 128)
unfolding groups_at
goes_on bytes place low weight added read lt last from below is =
    let b : ℕ = get_or bytes place 0 in
    let few : place < 4 = elim (cases_eq place 4) [
      | inl e ↦ absurd (omega (arith, last e))
      | inr ne ↦ omega
          (arith, read.few, ne)
    ] in
    let more : 4 - place ≡ suc (4 - (place + 1)) = omega arith in
    let opens : groups_at (4 - place) (drop place bytes) ≡ (groups_at (4 - (place + 1)) (drop (place + 1) bytes) >>=
    λ high. cond (eqb high.0 0) (Err BadInstr) (Ok (b - 128 + 128 * high.0, high.1))) = rw
    (more, opened bytes place lt) (rw (le-ltb b 128 from) refl) in
    let joined = with_low-high place low weight b (groups_at (4 - (place + 1)) (drop (place + 1) bytes))
    (is_first bytes place low weight read) from below in
    let so_far : with_low (suc place) (low + b % 128 * weight) (weight * 128) (groups_at (4 - (place + 1))
    (drop (place + 1) bytes)) ≡ number_at bytes = sym joined ∙ ap (with_low place low weight) (sym opens)
    ∙ read.so_far in
    let power : weight * 128 ≡ 128 ^ suc place = rw (read.weight_is) (sym (pow-suc 128 place)) in
    rw (is, add-one) (record {
      few = omega arith;
      weight_is = power;
      below = below_next low weight b read.below;
      so_far = subst (λ (n : ℕ). with_low (suc place) (low + b % 128 * weight) (weight * 128)
          (groups_at (4 - n) (drop n bytes)) ≡ number_at bytes) (add-one place) so_far;
    })

-- the last byte
pub is_last : (bytes : List ℕ) (place low weight added : ℕ) → IsRead bytes place low weight → place < length bytes
    → (place ≡ 4 → get_or bytes place 0 ≤ 15) → get_or bytes place 0 < 128
    → (get_or bytes place 0 ≡ 0 → place ≡ 0) → added ≡ get_or bytes place 0 % 128 → number_at bytes
    ≡ Ok (low + added * weight, drop (place + 1) bytes)
is_last bytes place low weight added read lt last small some is =
    let b : ℕ = get_or bytes place 0 in
    let ends : groups_at (4 - place) (drop place bytes) ≡ Ok (b, drop (place + 1) bytes) = rw (opened bytes place lt)
    (groups-last (4 - place) b (drop (place + 1) bytes) small (λ e. last (omega (arith, e, read.few)))) in
    rw is (sym read.so_far ∙ ap (with_low place low weight) ends ∙ with_low-last place low weight b
    (drop (place + 1) bytes) (is_first bytes place low weight read) small some)

-- a last byte of 00 behind others
pub is_long : (bytes : List ℕ) (place low weight : ℕ) → IsRead bytes place low weight → place < length bytes → get_or
    bytes place 0 ≡ 0 → 0 < place → number_at bytes ≡ Err BadInstr
is_long bytes zero low weight read lt none behind = absurd (omega arith)
is_long bytes (suc place) low weight read lt none behind =
    let ends : groups_at (4 - suc place) (drop (suc place) bytes) ≡ Ok (0, drop (suc place + 1) bytes) = rw
    (opened bytes (suc place) lt, none) (groups-last (4 - suc place) 0 (drop (suc place + 1) bytes) (omega arith)
    (λ e. omega arith)) in
    sym read.so_far ∙ ap (with_low (suc place) low weight) ends

-- a fifth byte past 0f
pub is_past : (bytes : List ℕ) (place low weight : ℕ) → IsRead bytes place low weight → place < length bytes → place
    ≡ 4 → 15 < get_or bytes place 0 → number_at bytes ≡ Err Limit
unfolding groups_at
is_past bytes place low weight read lt four big =
    let none : 4 - place ≡ zero = omega arith in
    let ends : groups_at (4 - place) (drop place bytes) ≡ Err Limit = rw (none, opened bytes place lt)
    (rw (lt-ltb 15 (get_or bytes place 0) big) refl) in
    sym read.so_far ∙ ap (with_low place low weight) ends ∙ with_low-err place low weight Limit

-- no byte is left
pub is_short : (bytes : List ℕ) (place low weight : ℕ) → IsRead bytes place low weight → length bytes ≤ place
    → number_at bytes ≡ Err Short
is_short bytes place low weight read le =
    let ends : groups_at (4 - place) (drop place bytes) ≡ Err Short = rw (drop_of_length-le bytes le)
    (groups-short (4 - place)) in
    sym read.so_far ∙ ap (with_low place low weight) ends ∙ with_low-err place low weight Short
