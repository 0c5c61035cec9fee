-- A process that is put in its place.
use Rattle.std.proofs.Common.{◌≡◌, ℕ, List, Option, ap, ◌∙◌}
use Rattle.std.specs.Ordering.{nat_cmp}
use Rattle.words.proofs.Updates.{put_same}
use Rattle.sorted_map.specs.Maps.{Updates, get}
use Rattle.source_table.proofs.Tables.{put_in}

-- what was put at a number is there
pub there : {X : Type 0} (before after : List (ℕ × X)) (k : ℕ) (w : Option X) → Updates nat_cmp before after k w
    → get nat_cmp after k ≡ w
there before after k w at =
    ap (λ f. f k) (put_in (λ o. o) before after k w at) ∙ put_same (get nat_cmp before) k w
