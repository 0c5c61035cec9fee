use Rattle.std.proofs.Common.{◌≡◌, ◌++◌, drop, map}
use Rattle.program.specs.Names.{naming_of}
use Rattle.source_states.specs.Actions.{action_of}
use Rattle.action_text.specs.ActionText.{run_lines}
use Rattle.action_text.proofs.writing.run_text.Given as goal

abbrev pub invariant-loop-action : goal.invariant-loop-action
invariant-loop-action l =
    l.bytes.items ++ run_lines (naming_of l.names) (map action_of (drop l.action-index l.actions))
    ≡ run_lines (naming_of l.names) (map action_of l.actions)
