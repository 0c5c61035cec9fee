use Rattle.std.proofs.Common.{drop}
use Rattle.program.specs.Views.{program_of}
use Rattle.meaning.specs.Runs.{CanMove}
use Rattle.source_states.specs.States.{state_of}
use Rattle.sourcemeaning.proofs.Found.{IsFound}
use Rattle.sourcemeaning.proofs.moving.movers.Given as goal

abbrev pub invariant-loop-number : goal.invariant-loop-number
invariant-loop-number l =
    IsFound (CanMove (program_of l.checked.tree) (state_of l.state)) l.movers.items (drop l.number-index l.numbers)
