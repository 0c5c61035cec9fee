use Rattle.std.proofs.Common.{All, take, ℕ}
use Rattle.image_states.specs.Choosing.{HasEachSet, lists_in}
use Rattle.image_states.specs.Room.{AreThreads}
use Rattle.image_states.proofs.each_set.sets.Given as goal

abbrev pub invariant-loop-number : goal.invariant-loop-number
invariant-loop-number l = record {
  each : HasEachSet (take l.number-index l.numbers) (lists_in l.lists.items);
  threads : (many : ℕ) → AreThreads many l.numbers → All (AreThreads many) (lists_in l.lists.items);
}
