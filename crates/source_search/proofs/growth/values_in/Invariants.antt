use Rattle.std.proofs.Common.{◌≡◌, map, take}
use Rattle.source_search.specs.Counting.{value_in}
use Rattle.source_search.proofs.growth.values_in.Given as goal

abbrev pub invariant-loop-number : goal.invariant-loop-number
invariant-loop-number l = l.values.items ≡ map (value_in l.variables l.place) (take l.number-index l.numbers)
