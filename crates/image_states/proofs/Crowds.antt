-- How many threads sleep on an address, and those that sleep there as a list.
use Rattle.std.proofs.Common.{◌≡◌, ◌≢◌, ◌<◌, ◌≤◌, ◌+◌, ◌-◌, ◌∙◌, ℕ, zero, suc, Bool, true, false, List, Option, None, Some, arith}
use Rattle.std.proofs.Common.{ap, length, refl, subst, ◌==◌}
use Rattle.std.specs.Prelude.{if◌then◌else◌}
use Rattle.std.proofs.lemmas.Bool.{eqb-true, eq-eqb}
use Rattle.buckets.specs.Places.{names, with_place}
use Rattle.image_states.specs.declared.bound.Bound.{Bound}
use Rattle.image_states.specs.declared.bound.Bound.TheVariants.{Parts as TooMany, Sleepers}
use Rattle.image_states.specs.declared.packed.Packed.{Packed as PackedOf}
use Rattle.image_states.specs.declared.parts.Parts.{Parts as PartsOf}
use Rattle.image_states.specs.Choosing.{AreSleepers, IsPlacedSome}
use Rattle.image_states.specs.Crowds.{IsCrowded, counted, sleepers_on}
use Rattle.image_states.specs.Packed.{asleep_at, place_of}
use Rattle.image_states.specs.Reasons.{IsWhy, IsWhyAmong}

-- one thread
counted_few : (o : Option ℕ) (a : ℕ) → counted o a ≤ 1
counted_few None a = omega arith
counted_few (Some b) a = by (b == a)
  where
    by : (same : Bool) → (if same then 1 else 0) ≤ 1
    by true = omega arith
    by false = omega arith

-- who sleeps there, and who doesn't
pub counted_here : (m place : ℕ) → 0 < place → m ≡ place → counted (place_of m) (place - 1) ≡ 1
counted_here zero place some e = absurd (omega (arith, some, e))
counted_here (suc b) place some e =
    let same : b ≡ place - 1 = omega (arith, e) in
    ap (λ (t : Bool). if t then 1 else 0) (eq-eqb b (place - 1) same)

pub counted_other : (m place : ℕ) → 0 < place → m ≢ place → counted (place_of m) (place - 1) ≡ 0
counted_other zero place some ne = refl
counted_other (suc b) place some ne = by (b == (place - 1)) refl
  where
    by : (t : Bool) → (b == (place - 1)) ≡ t → ◌≡◌ {A = ℕ} (if t then 1 else 0) 0
    by true e = absurd (let same : b ≡ place - 1 = eqb-true b (place - 1) e in ne (omega (arith, same, some)))
    by false e = refl

-- one thread more
pub sleepers_next : (asleep : ℕ → Option ℕ) (a n : ℕ)
    → sleepers_on asleep a (n + 1) ≡ sleepers_on asleep a n + counted (asleep (suc n)) a
sleepers_next asleep a n =
    let next : suc n ≡ n + 1 = omega arith in
    subst (λ m. sleepers_on asleep a m ≡ sleepers_on asleep a n + counted (asleep (suc n)) a) next refl

-- no more of so many threads sleep than there are
pub sleepers_few : (asleep : ℕ → Option ℕ) (a n : ℕ) → sleepers_on asleep a n ≤ n
sleepers_few asleep a zero = omega arith
sleepers_few asleep a (suc n) =
    let before : sleepers_on asleep a n ≤ n = sleepers_few asleep a n in
    let one : counted (asleep (suc n)) a ≤ 1 = counted_few (asleep (suc n)) a in
    omega (arith, before, one)

-- where some were woken, no more sleep
fewer_one : (asleep : ℕ → Option ℕ) (woken : List ℕ) (a u : ℕ)
    → counted (with_place asleep woken None u) a ≤ counted (asleep u) a
fewer_one asleep woken a u = by (names woken u)
  where
    by : (b : Bool) → counted (if b then None else asleep u) a ≤ counted (asleep u) a
    by true = omega arith
    by false = omega arith

fewer : (asleep : ℕ → Option ℕ) (woken : List ℕ) (a n : ℕ)
    → sleepers_on (with_place asleep woken None) a n ≤ sleepers_on asleep a n
fewer asleep woken a zero = omega arith
fewer asleep woken a (suc n) =
    let before : sleepers_on (with_place asleep woken None) a n ≤ sleepers_on asleep a n = fewer asleep woken a n in
    let one : counted (with_place asleep woken None (suc n)) a ≤ counted (asleep (suc n)) a =
    fewer_one asleep woken a (suc n) in
    omega (arith, before, one)

-- those that sleep on an address
module _ (places : List ℕ) (a : ℕ) (sleepers : List ℕ) (are : AreSleepers places (suc a) sleepers) where
  counted_so : length sleepers ≡ sleepers_on (asleep_at places) a (length places)
  counted_so =
      let one : suc a - 1 ≡ a = omega arith in
      are.count ∙ ap (λ b. sleepers_on (asleep_at places) b (length places)) one

  pub no_more_sleepers : length sleepers ≤ length places
  no_more_sleepers =
      let few : sleepers_on (asleep_at places) a (length places) ≤ length places =
      sleepers_few (asleep_at places) a (length places) in
      omega (arith, few, counted_so)

  pub is_crowd : 12 < length sleepers → IsCrowded (asleep_at places)
  is_crowd many = (a, length places, subst (λ n. 12 < n) counted_so many)

pub among_why : (parts : PartsOf) (x : PackedOf) (a : ℕ) (sleepers : List ℕ) → AreSleepers x.places.items (suc a) sleepers
    → (why : Bound) → IsWhyAmong parts sleepers why → IsWhy parts x why
among_why parts x a sleepers are TooMany is = is
among_why parts x a sleepers are Sleepers many = is_crowd x.places.items a sleepers are many

-- behind a wake of some
pub mid_why : (parts : PartsOf) (x mid : PackedOf) → IsPlacedSome x 0 mid → (why : Bound) → IsWhy parts mid why
    → IsWhy parts x why
mid_why parts x mid placed TooMany is = is
mid_why parts x mid placed Sleepers (a, n, many) =
    let fewer' : sleepers_on (with_place (asleep_at x.places.items) placed.0 None) a n
    ≤ sleepers_on (asleep_at x.places.items) a n = fewer (asleep_at x.places.items) placed.0 a n in
    let many' : 12 < sleepers_on (with_place (asleep_at x.places.items) placed.0 None) a n =
    subst (λ f. 12 < sleepers_on f a n) (placed.1).places many in
    (a, n, omega (arith, fewer', many'))
