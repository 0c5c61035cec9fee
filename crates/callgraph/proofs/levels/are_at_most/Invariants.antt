use Rattle.std.proofs.Common.{ℕ, ◌≤◌, slice_index_or, take}
use Rattle.std.specs.Prelude.{Contains}
use Rattle.callgraph.proofs.levels.are_at_most.Given as goal

abbrev pub invariant-loop-procedure : goal.invariant-loop-procedure
invariant-loop-procedure l = (b : ℕ) → Contains (take l.procedure-index l.procedures) b
    → slice_index_or l.levels b 0 ≤ l.level
