use Rattle.std.proofs.Common.{map, take}
use Rattle.program.specs.Views.{program_of}
use Rattle.meaning.specs.Runs.{IsRun}
use Rattle.source_states.specs.Actions.{action_of}
use Rattle.source_states.specs.States.{state_of}
use Rattle.sourcemeaning.proofs.running.run_length.Given as goal

abbrev pub invariant-loop-i : goal.invariant-loop-i
invariant-loop-i l = IsRun (program_of l.checked.tree) (map action_of (take l.i l.actions)) (state_of l.state)
