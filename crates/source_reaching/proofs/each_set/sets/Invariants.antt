use Rattle.std.proofs.Common.{take}
use Rattle.source_reaching.specs.Choices.{HasEachSet, lists_in}
use Rattle.source_reaching.proofs.each_set.sets.Given as goal

abbrev pub invariant-loop-number : goal.invariant-loop-number
invariant-loop-number l = HasEachSet (take l.number-index l.numbers) (lists_in l.lists.items)
