use Rattle.std.proofs.Common.{◌≡◌, take}
use Rattle.std.specs.List.{flat_map}
use Rattle.source_search.specs.Counting.{part_at}
use Rattle.source_search.proofs.growth.parts_at.Given as goal

abbrev pub invariant-loop-packed : goal.invariant-loop-packed
invariant-loop-packed l = l.numbers.items ≡ flat_map (part_at l.place) (take l.packed-index l.states)
