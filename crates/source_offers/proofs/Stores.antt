-- A value that is put into a variable.
use Rattle.std.proofs.Common.{◌≡◌, ℕ, ℤ, Bool, true, false, cond, ◌&&◌, ◌==◌, Option, List, refl, ap, ◌∙◌, arith}
use Rattle.std.proofs.lemmas.Grind.{common_steps}
use Rattle.std.specs.Ordering.{nat_cmp, ordering_then, is_eq}
use Rattle.std.specs.declared.cmp.Ordering.{Ordering}
use Rattle.std.specs.declared.cmp.Ordering.TheVariants.{Less, Equal, Greater}
use Rattle.std.specs.BTreeMap.{is_at}
use Rattle.sorted_map.specs.Maps.{Updates, get}
use Rattle.meaning.specs.Values.{with_variable, or_zero}
use Rattle.source_offers.specs.declared.variables.Place.{Place}
use Rattle.source_offers.specs.Stores.{place_cmp, variables_in}

is_eq-then : (a b : Ordering) → is_eq (ordering_then a b) ≡ (is_eq a && is_eq b)
is_eq-then Less b = refl
is_eq-then Equal b = refl
is_eq-then Greater b = refl

is_eq-nat_cmp : (x y : ℕ) → is_eq (nat_cmp x y) ≡ (y == x)
is_eq-nat_cmp x y = grind (arith, common_steps)

or_zero-cond : (b : Bool) (w o : Option ℤ) → or_zero (cond b w o) ≡ cond b (or_zero w) (or_zero o)
or_zero-cond true w o = refl
or_zero-cond false w o = refl

and_assoc : (a b c : Bool) → (a && (b && c)) ≡ (a && b && c)
and_assoc true b c = refl
and_assoc false b c = refl

is_at-place : (p : Place) (m n k : ℕ)
    → is_at (place_cmp p) (record { monitor = m; member = n; index = k }) ≡
    ((m == p.monitor) && (n == p.member) && (k == p.index))
is_at-place p m n k =
    is_eq-then (nat_cmp p.monitor m) (ordering_then (nat_cmp p.member n) (nat_cmp p.index k))
    ∙ (λ i. is_eq-nat_cmp p.monitor m i && is_eq-then (nat_cmp p.member n) (nat_cmp p.index k) i)
    ∙ (λ i. (m == p.monitor) && (is_eq-nat_cmp p.member n i && is_eq-nat_cmp p.index k i))
    ∙ and_assoc (m == p.monitor) (n == p.member) (k == p.index)

-- the map with a value at a place, or without the place, as the value of each variable
pub put_variable : (before after : List (Place × ℤ)) (p : Place) (w : Option ℤ) → Updates place_cmp before after p w
    → variables_in after ≡ with_variable (variables_in before) p.monitor p.member p.index (or_zero w)
put_variable before after p w at = λ i m n k. (
    ap or_zero (at (record { monitor = m; member = n; index = k }))
    ∙ or_zero-cond (is_at (place_cmp p) (record { monitor = m; member = n; index = k })) w
    (get place_cmp before (record { monitor = m; member = n; index = k }))
    ∙ ap (λ b. cond b (or_zero w) (variables_in before m n k)) (is_at-place p m n k)) i
