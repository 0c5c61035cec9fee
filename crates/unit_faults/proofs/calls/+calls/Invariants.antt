use Rattle.std.proofs.Common.{◌≡◌, ◌++◌, take}
use Rattle.syntax.specs.View.{statements_in}
use Rattle.types.specs.CallFaults.{block_calls}
use Rattle.types.specs.Scope.{Scope}
use Rattle.unit_faults.specs.Callers.{IsCaller, calls_at}
use Rattle.unit_faults.proofs.calls.+calls.Given as goal

abbrev pub invariant-block-loop-tree : goal.invariant-block-loop-tree
invariant-block-loop-tree l = (s : Scope) → IsCaller s l.caller → l.calls.items
    ≡ l.fn.calls.items ++ calls_at l.caller.number (block_calls s (statements_in (take l.tree-index l.statements)))
