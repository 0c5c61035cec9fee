use Rattle.std.proofs.Common.{◌≡◌, ℕ, List, set, take}
use Rattle.sparse_memory.specs.Spread.{put_yet, spread}
use Rattle.sparse_memory.proofs.memory.entries_with.Given as goal

abbrev pub invariant-loop-entry : goal.invariant-loop-entry
invariant-loop-entry l = (empty : List ℕ) → set empty l.a 0 ≡ empty
    → spread empty l.more.items ≡ set (spread empty (take l.entry-index l.entries)) l.a (put_yet l.put l.v)
