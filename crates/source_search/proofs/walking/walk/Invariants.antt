use Rattle.std.proofs.Common.{map, take}
use Rattle.program.specs.Views.{program_of}
use Rattle.meaning.specs.Runs.{Leads}
use Rattle.source_states.specs.Actions.{action_of}
use Rattle.source_states.specs.States.{state_of}
use Rattle.source_search.proofs.walking.walk.Given as goal

abbrev pub invariant-loop-action : goal.invariant-loop-action
invariant-loop-action l = Leads (program_of l.checked.tree) (state_of l.fn.state)
    (map action_of (take l.action-index l.actions)) (state_of l.state)
