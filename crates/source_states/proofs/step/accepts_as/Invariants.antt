use Rattle.std.proofs.Common.{◌↔◌, drop, map}
use Rattle.program.specs.Trees.{as_version}
use Rattle.program.specs.Views.{program_of}
use Rattle.meaning.specs.Runs.{IsRun, Leads}
use Rattle.meaning.specs.States.{SourceState}
use Rattle.source_states.specs.Actions.{action_of}
use Rattle.source_states.specs.States.{state_of}
use Rattle.source_states.proofs.step.accepts_as.Given as goal

abbrev pub invariant-loop-action : goal.invariant-loop-action
invariant-loop-action l =
    (s : SourceState)
    → Leads (as_version l.fn.version (program_of l.checked.tree)) (state_of l.state) (map action_of (drop l.action-index l.actions)) s
    ↔ IsRun (as_version l.fn.version (program_of l.checked.tree)) (map action_of l.actions) s
