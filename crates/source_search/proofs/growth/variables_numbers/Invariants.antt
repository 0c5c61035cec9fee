use Rattle.std.proofs.Common.{◌≡◌, map, take}
use Rattle.source_search.specs.Counting.{variables_number}
use Rattle.source_search.proofs.growth.variables_numbers.Given as goal

abbrev pub invariant-loop-packed : goal.invariant-loop-packed
invariant-loop-packed l = l.numbers.items ≡ map variables_number (take l.packed-index l.states)
