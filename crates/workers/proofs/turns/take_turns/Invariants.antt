use Rattle.std.proofs.Common.{◌-◌}
use Rattle.workers.specs.Taken.{AreTurns}
use Rattle.workers.proofs.turns.take_turns.Given as goal

abbrev pub invariant-loop-pieces : goal.invariant-loop-pieces
invariant-loop-pieces g l = AreTurns g.J.RunName.program l.fn.pieces.items l.pieces.items l.taken

abbrev pub decreases-loop-pieces : goal.decreases-loop-pieces
decreases-loop-pieces g l = 16 - l.taken
