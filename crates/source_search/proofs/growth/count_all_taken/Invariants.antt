use Rattle.std.proofs.Common.{◌≡◌, All, List, map, take}
use Rattle.source_search.specs.Counting.{AreNumbersOf}
use Rattle.source_search.specs.Growth.{HasTaken}
use Rattle.source_search.specs.Kept.{states_in}
use Rattle.source_search.specs.declared.growth.Taken.{Taken}
use Rattle.source_search.specs.declared.packed.Packed.{Packed}
use Rattle.source_search.proofs.growth.count_all_taken.Given as goal

abbrev pub invariant-loop-place : goal.invariant-loop-place
invariant-loop-place l = record {
  places : map (λ (t : Taken). t.place) l.all.items ≡ take l.place-index l.places;
  taken : (states : List Packed) → AreNumbersOf states l.numbers
      → All (HasTaken (states_in l.parts states)) l.all.items;
}
