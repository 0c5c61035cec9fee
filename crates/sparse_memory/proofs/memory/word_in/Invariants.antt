use Rattle.std.proofs.Common.{◌≡◌, ℕ, List, Some, slice_get, take}
use Rattle.sparse_memory.specs.Spread.{spread}
use Rattle.sparse_memory.proofs.memory.word_in.Given as goal

abbrev pub invariant-loop-entry : goal.invariant-loop-entry
invariant-loop-entry l = (words : List ℕ) → slice_get words l.a ≡ Some 0
    → slice_get (spread words (take l.entry-index l.entries)) l.a ≡ Some l.word
