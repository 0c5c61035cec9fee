use Rattle.std.proofs.Common.{◌≤◌, All, length, take}
use Rattle.source_search.specs.declared.packed.Packed.{Packed}
use Rattle.source_search.proofs.living.most_made.Given as goal

abbrev pub invariant-loop-packed : goal.invariant-loop-packed
invariant-loop-packed l = All (λ (x : Packed). length x.processes.items ≤ l.most) (take l.packed-index l.states)
