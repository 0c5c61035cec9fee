-- A table that is changed at one place.
use Rattle.std.proofs.Common.{◌≡◌, ℕ, Bool, true, false, cond, ◌==◌, List, Option, refl, ap, ◌∙◌, arith}
use Rattle.std.proofs.lemmas.Grind.{common_steps}
use Rattle.std.specs.Ordering.{nat_cmp}
use Rattle.std.specs.BTreeMap.{is_at}
use Rattle.words.specs.Updates.{put}
use Rattle.sorted_map.specs.Maps as flat

pub is_at-number : (k j : ℕ) → is_at (nat_cmp k) j ≡ (j == k)
is_at-number k j = grind (arith, common_steps)

chosen_at : {X Y : Type 0} (f : X → Y) (b : Bool) (x y : X) → f (cond b x y) ≡ cond b (f x) (f y)
chosen_at f true x y = refl
chosen_at f false x y = refl

-- what a map says, with another value at one key
pub put_in : {X Y : Type 0} (f : Option X → Y) (before after : List (ℕ × X)) (k : ℕ) (w : Option X)
    → flat.Updates nat_cmp before after k w
    → (λ q. f (flat.get nat_cmp after q)) ≡ put (λ q. f (flat.get nat_cmp before q)) k (f w)
put_in f before after k w at = λ i j. (
    ap f (at j)
    ∙ chosen_at f (is_at (nat_cmp k) j) w (flat.get nat_cmp before j)
    ∙ ap (λ b. cond b (f w) (f (flat.get nat_cmp before j))) (is_at-number k j)) i
