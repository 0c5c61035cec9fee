-- What grew in a search, as it is counted by the parts of the kept states.
use Rattle.std.proofs.Common.{◌≡◌, ◌∙◌, ◌<◌, ◌≤◌, ◌+◌, ◌++◌, ◌⊎◌, ℕ, ℤ, zero, suc, List, [], ◌∷◌, All, Contains, Option, Some, None}
use Rattle.std.proofs.Common.{ap, arith, false, get_or, inl, inr, length, map, refl, slice_get, subst, sym, take, true}
use Rattle.std.specs.Prelude.{IsSome}
use Rattle.std.specs.List.{flat_map}
use Rattle.std.proofs.lemmas.List.{flat_map_more, length-map, take_more}
use Rattle.std.proofs.lemmas.List.Elements.{All-contains, Contains-append_cases, Contains-append_left}
use Rattle.std.proofs.lemmas.List.Elements.{Contains-append_right, Contains-get_or}
use Rattle.std.proofs.lemmas.Option.{get_or_from_slice_get, none-some, same_Some, slice_get_past, slice_get_within}
use Rattle.meaning.specs.Processes.{Process}
use Rattle.meaning.specs.States.{SourceState}
use Rattle.source_offers.specs.declared.process.Process.{Process as ProcessOf}
use Rattle.source_offers.specs.declared.variables.Place.{Place}
use Rattle.source_reaching.proofs.Subsets.{contains_map}
use Rattle.source_search.specs.Counting.{AreNumbersOf, listed, part_at, value_in, variables_number}
use Rattle.source_search.specs.Growth.{AreSoMany, HasStood, HaveStood, IsWay, counted, value_at}
use Rattle.source_search.specs.Kept.{states_in}
use Rattle.source_search.specs.Packed.{IsWithin, process_in, some_process, unpacked}
use Rattle.source_search.specs.declared.packed.Packed.{Packed as PackedOf}
use Rattle.source_search.specs.declared.parts.Parts.{Parts as PartsOf}

-- what is among what a function makes of all, it makes of one
pub map_from : {X Y : Type 0} (f : X → Y) (xs : List X) (y : Y) → Contains (map f xs) y → (x : X) × Contains xs x × (f x ≡ y)
map_from f [] y (k, less, e) = absurd (omega (arith, less))
map_from f (x ∷ xs) y (zero, less, e) = (x, (0, omega arith, refl), e)
map_from f (x ∷ xs) y (suc k, less, e) =
    let rest = map_from f xs y (k, omega (arith, less), e) in
    (rest.0, Contains-append_right (x ∷ []) xs rest.0 rest.1, rest.2)

-- the element at a place is among all
pub contains_at : {X : Type 0} (xs : List X) (i : ℕ) (x : X) → slice_get xs i ≡ Some x → Contains xs x
contains_at xs i x is =
    subst (Contains xs) (get_or_from_slice_get xs i x x is) (Contains-get_or xs i x (slice_get_within xs i x is))

-- of the same values there are as many
pub as_many : (xs ys : List ℤ) (n : ℕ) → ((v : ℤ) → Contains xs v → Contains ys v)
    → ((v : ℤ) → Contains ys v → Contains xs v) → AreSoMany xs n → AreSoMany ys n
as_many xs ys n to from many = record {
  values = many.values;
  rising = many.rising;
  all = λ v is. many.all v (from v is);
  only = λ v is. to v (many.only v is);
  count = many.count;
}

-- the values of a variable in kept states, of which these are the numbers of the values of the variables
module _ (x : Place) (parts : PartsOf) (states : List PackedOf) (numbers : List ℕ) (are : AreNumbersOf states numbers) where
  abbrev pub value : ℕ → ℤ
  value = value_in parts.variables.items x

  to_states : (v : ℤ) → Contains (map value numbers) v → Contains (map (value_at x) (states_in parts states)) v
  to_states v is =
      let one : (n : ℕ) × Contains numbers n × (value n ≡ v) = map_from value numbers v is in
      let state : (y : PackedOf) × Contains states y × (variables_number y ≡ one.0) =
      map_from variables_number states one.0 (are.only one.0 one.1) in
      subst (Contains (map (value_at x) (states_in parts states))) (ap value state.2 ∙ one.2)
      (contains_map (value_at x) (states_in parts states) (unpacked parts state.0)
      (contains_map (unpacked parts) states state.0 state.1))

  to_numbers : (v : ℤ) → Contains (map (value_at x) (states_in parts states)) v → Contains (map value numbers) v
  to_numbers v is =
      let s : (r : SourceState) × Contains (states_in parts states) r × (value_at x r ≡ v) =
      map_from (value_at x) (states_in parts states) v is in
      let y : (z : PackedOf) × Contains states z × (unpacked parts z ≡ s.0) = map_from (unpacked parts) states s.0 s.1 in
      subst (Contains (map value numbers)) (ap (value_at x) y.2 ∙ s.2)
      (contains_map value numbers y.0.variables (are.all y.0.variables (contains_map variables_number states y.0 y.1)))

  pub taken : (n : ℕ) → AreSoMany (map value numbers) n → AreSoMany (map (value_at x) (states_in parts states)) n
  taken n many = as_many (map value numbers) (map (value_at x) (states_in parts states)) n to_states to_numbers many

-- what is in one of the lists is in all of them
pub flat_to : {X Y : Type 0} (f : X → List Y) (xs : List X) (x : X) (y : Y) → Contains xs x → Contains (f x) y
    → Contains (flat_map f xs) y
flat_to f [] x y (k, less, e) is = absurd (omega (arith, less))
flat_to f (z ∷ xs) x y (zero, less, e) is =
    Contains-append_left (f z) (flat_map f xs) y (subst (λ w. Contains (f w) y) (sym e) is)
flat_to f (z ∷ xs) x y (suc k, less, e) is =
    Contains-append_right (f z) (flat_map f xs) y (flat_to f xs x y (k, omega (arith, less), e) is)

-- and what is in all is in one of them
from_parts : {X Y : Type 0} (f : X → List Y) (x : X) (xs : List X) (y : Y) → Contains (f x) y ⊎ Contains (flat_map f xs) y
    → (Contains (flat_map f xs) y → (z : X) × Contains xs z × Contains (f z) y)
    → (z : X) × Contains (x ∷ xs) z × Contains (f z) y
from_parts f x xs y (inl here) rest = (x, (0, omega arith, refl), here)
from_parts f x xs y (inr there) rest =
    let one = rest there in (one.0, Contains-append_right (x ∷ []) xs one.0 one.1, one.2)

pub flat_from : {X Y : Type 0} (f : X → List Y) (xs : List X) (y : Y) → Contains (flat_map f xs) y
    → (x : X) × Contains xs x × Contains (f x) y
flat_from f [] y (k, less, e) = absurd (omega (arith, less))
flat_from f (x ∷ xs) y is =
    from_parts f x xs y (Contains-append_cases (f x) (flat_map f xs) y is) (λ there. flat_from f xs y there)

-- a number that is there is in its list
listed_to : (o : Option ℕ) (n : ℕ) → o ≡ Some n → Contains (listed o) n
listed_to o n is = subst (λ (p : Option ℕ). Contains (listed p) n) (sym is) (0, omega arith, refl)

listed_from : (o : Option ℕ) (n : ℕ) → Contains (listed o) n → o ≡ Some n
listed_from None n (k, less, e) = absurd (omega (arith, less))
listed_from (Some m) n (zero, less, e) = ap (λ j. Some j) e
listed_from (Some m) n (suc k, less, e) = absurd (omega (arith, less))

some_below : (parts : List ProcessOf) (n : ℕ) → n < length parts → IsSome (process_in parts n)
some_below [] n less = absurd (omega (arith, less))
some_below (q ∷ qs) zero less = refl
some_below (q ∷ qs) (suc n) less = some_below qs n (omega (arith, less))

none_there : (way : Option Process) → None ≡ way → IsSome way → ⊥
none_there way e is = let no : false ≡ true = subst IsSome (sym e) is in cc

-- the ways in which the process at a place stood in kept states, of which these are the numbers of its parts
module _ (parts : PartsOf) (states : List PackedOf) (sound : All (IsWithin parts) states) (place : ℕ) (numbers : List ℕ)
    (all : (n : ℕ) → Contains (flat_map (part_at place) states) n → Contains numbers n)
    (only : (n : ℕ) → Contains numbers n → Contains (flat_map (part_at place) states) n) where
  abbrev pub part : ℕ → Option Process
  part n = process_in parts.processes.items n

  way_of_part : (x : PackedOf) → Contains states x → (way : Option Process) → IsSome way
      → some_process parts.processes.items (slice_get x.processes.items place) ≡ way
      → (o : Option ℕ) → slice_get x.processes.items place ≡ o → Contains (map part numbers) way
  way_of_part x there way some stands None e =
      absurd (none_there way (sym (ap (some_process parts.processes.items) e) ∙ stands) some)
  way_of_part x there way some stands (Some n) e =
      subst (Contains (map part numbers)) (sym (ap (some_process parts.processes.items) e) ∙ stands)
      (contains_map part numbers n (all n (flat_to (part_at place) states x n there
      (listed_to (slice_get x.processes.items place) n e))))

  all_ways : (way : Option Process) → IsWay (states_in parts states) (suc place) way → Contains (map part numbers) way
  all_ways way is =
      let x : (y : PackedOf) × Contains states y × (unpacked parts y ≡ is.state) =
      map_from (unpacked parts) states is.state is.is_kept in
      way_of_part x.0 x.1 way is.there (ap (λ (s : SourceState). s.process (suc place)) x.2 ∙ is.stands)
      (slice_get x.0.processes.items place) refl

  only_ways : (way : Option Process) → Contains (map part numbers) way → IsWay (states_in parts states) (suc place) way
  only_ways way is =
      let one : (n : ℕ) × Contains numbers n × (part n ≡ way) = map_from part numbers way is in
      let x : (y : PackedOf) × Contains states y × Contains (part_at place y) one.0 =
      flat_from (part_at place) states one.0 (only one.0 one.1) in
      let stands : slice_get x.0.processes.items place ≡ Some one.0 =
      listed_from (slice_get x.0.processes.items place) one.0 x.2 in
      let within : IsWithin parts x.0 = All-contains (IsWithin parts) states x.0 sound x.1 in
      record {
        there = subst IsSome one.2 (some_below parts.processes.items one.0
            (All-contains (λ n. n < length parts.processes.items) x.0.processes.items one.0 within.processes
            (contains_at x.0.processes.items place one.0 stands)));
        state = unpacked parts x.0;
        is_kept = contains_map (unpacked parts) states x.0 x.1;
        stands = ap (some_process parts.processes.items) stands ∙ one.2;
      }

  pub stood : HasStood (states_in parts states) (suc place) (length numbers)
  stood = record { ways = map part numbers; all = all_ways; only = only_ways; count = length-map numbers part }

-- behind the last process of each state there is none
pub none_stood : (parts : PartsOf) (states : List PackedOf) (most k : ℕ)
    → All (λ (x : PackedOf). length x.processes.items ≤ most) states → most ≤ k
    → HasStood (states_in parts states) (suc k) 0
none_stood parts states most k few behind = record {
  ways = [];
  all = λ way is. absurd (no_way way is);
  only = λ way is. absurd (omega (arith, is.1));
  count = refl;
}
  where
    no_way : (way : Option Process) → IsWay (states_in parts states) (suc k) way → ⊥
    no_way way is =
        let x : (y : PackedOf) × Contains states y × (unpacked parts y ≡ is.state) =
        map_from (unpacked parts) states is.state is.is_kept in
        let short : length x.0.processes.items ≤ most =
        All-contains (λ (y : PackedOf). length y.processes.items ≤ most) states x.0 few x.1 in
        none_there way
        (sym (ap (some_process parts.processes.items) (slice_get_past x.0.processes.items k (omega (arith, short, behind))))
        ∙ ap (λ (s : SourceState). s.process (suc k)) x.2 ∙ is.stands)
        is.there

past : {X : Type 0} (xs : List X) (k : ℕ) → slice_get xs k ≡ None → length xs ≤ k
past [] k e = omega arith
past (x ∷ xs) zero e = absurd (none-some x (sym e))
past (x ∷ xs) (suc k) e = let rest : length xs ≤ k = past xs k e in omega (arith, rest)

-- where it is known of each process of which a number stands in a list, it is known of each
pub have_stood : (parts : PartsOf) (states : List PackedOf) (most : ℕ) (counts : List ℕ)
    → All (λ (x : PackedOf). length x.processes.items ≤ most) states → most ≤ length counts
    → ((k n : ℕ) → slice_get counts k ≡ Some n → HasStood (states_in parts states) (suc k) n)
    → HaveStood (states_in parts states) counts
have_stood parts states most counts few long each k = by_count (slice_get counts k) refl
  where
    by_count : (o : Option ℕ) → slice_get counts k ≡ o → HasStood (states_in parts states) (suc k) (counted (slice_get counts k))
    by_count (Some n) e =
        subst (λ (p : Option ℕ). HasStood (states_in parts states) (suc k) (counted p)) (sym e) (each k n e)
    by_count None e =
        let short : length counts ≤ k = past counts k e in
        subst (λ (p : Option ℕ). HasStood (states_in parts states) (suc k) (counted p)) (sym e)
        (none_stood parts states most k few (omega (arith, long, short)))

-- what is known of each number by its place, and of one more
pub each_more : (P : ℕ → ℕ → Type 0) (counts : List ℕ) (n : ℕ)
    → ((k m : ℕ) → slice_get counts k ≡ Some m → P k m) → P (length counts) n
    → (k m : ℕ) → slice_get (counts ++ n ∷ []) k ≡ Some m → P k m
each_more P [] n each last zero m e = subst (P 0) (same_Some n m e) last
each_more P [] n each last (suc k) m e = absurd (none-some m e)
each_more P (c ∷ counts) n each last zero m e = each 0 m e
each_more P (c ∷ counts) n each last (suc k) m e =
    each_more (λ j. P (suc j)) counts n (λ j. each (suc j)) last k m e

-- the numbers of parts of so many states, and of one more
pub numbers_more : (place : ℕ) (states : List PackedOf) (i : ℕ) (x : PackedOf) (before after : List ℕ)
    → i < length states → x ≡ get_or states i x → before ≡ flat_map (part_at place) (take i states)
    → after ≡ before ++ part_at place x → after ≡ flat_map (part_at place) (take (i + 1) states)
numbers_more place states i x before after less is all next =
    next ∙ ap (λ (ns : List ℕ). ns ++ part_at place x) all ∙ flat_map_more (part_at place) [] (take i states) x
    ∙ ap (λ (xs : List PackedOf). flat_map (part_at place) xs)
    (ap (λ (y : PackedOf). take i states ++ y ∷ []) is ∙ sym (take_more states i x less))
