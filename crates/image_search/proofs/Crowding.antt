-- How many threads sleep on an address.
use Rattle.std.proofs.Common.{◌≡◌, ◌<◌, ◌≤◌, ◌+◌, ℕ, suc, Bool, List, Option, None, Some, ap, arith, false, refl, slice_index}
use Rattle.std.proofs.Common.{subst, sym, true}
use Rattle.std.specs.Prelude.{IfNone, IfSome, if◌then◌else◌}
use Rattle.words.specs.declared.mem.Addr.{Addr}
use Rattle.machine.specs.Views.{address_of}
use Rattle.image_states.specs.Packed.{asleep_at, place_of}
use Rattle.image_states.specs.Crowds.{IsCrowded, counted, sleepers_on}

-- one thread
pub counted_by : (t : Bool) (n : ℕ) → (t ≡ true → n ≡ 1) → (t ≡ false → n ≡ 0) → n ≡ (if t then 1 else 0)
counted_by true n some none = some refl
counted_by false n some none = none refl

pub few_by : (t : Bool) (n : ℕ) → (t ≡ true → n ≡ 1) → (t ≡ false → n ≡ 0) → n ≤ 1
few_by true n some none = let one : n ≡ 1 = some refl in omega (arith, one)
few_by false n some none = let zero : n ≡ 0 = none refl in omega (arith, zero)

-- one thread more
sleepers_more : (asleep : ℕ → Option ℕ) (a n : ℕ)
    → sleepers_on asleep a (n + 1) ≡ sleepers_on asleep a n + counted (asleep (n + 1)) a
sleepers_more asleep a n =
    let next : suc n ≡ n + 1 = omega arith in
    subst (λ m. sleepers_on asleep a m ≡ sleepers_on asleep a n + counted (asleep m) a) next refl

pub one_more : (asleep : ℕ → Option ℕ) (a n count one : ℕ) → count ≡ sleepers_on asleep a n
    → one ≡ counted (asleep (n + 1)) a → count + one ≡ sleepers_on asleep a (n + 1)
one_more asleep a n count one so is =
    let more = sleepers_more asleep a n in
    omega (arith, so, is, more)

pub crowd_of : (asleep : ℕ → Option ℕ) (a count : ℕ) → (n : ℕ) × (count ≡ sleepers_on asleep a n) → 12 < count
    → IsCrowded asleep
crowd_of asleep a count is many = (a, is.0, subst (λ k. 12 < k) is.1 many)

-- where a thread of a packed state sleeps
pub placed_so : (o : Option Addr) (n : ℕ) → IfNone o (n ≡ 0) → IfSome o (λ a. n ≡ suc a.0) → address_of o ≡ place_of n
placed_so None n none some = ap place_of (sym none)
placed_so (Some a) n none some = ap place_of (sym some)

pub asleep_next : (places : List ℕ) (k : ℕ) → place_of (slice_index places k) ≡ asleep_at places (k + 1)
asleep_next places k =
    let next : suc k ≡ k + 1 = omega arith in
    subst (λ m. place_of (slice_index places k) ≡ asleep_at places m) next refl
