use Rattle.std.proofs.Common.{◌≡◌, ◌++◌}
use Rattle.lowering.specs.Pieces.{parameters_code}
use Rattle.proclower.proofs.beginning.parameters.Given as goal

abbrev pub invariant-loop-left : goal.invariant-loop-left
invariant-loop-left l = l.code.items ++ parameters_code l.left ≡ l.fn.code.items ++ parameters_code l.count

abbrev pub decreases-loop-left : goal.decreases-loop-left
decreases-loop-left l = l.left
