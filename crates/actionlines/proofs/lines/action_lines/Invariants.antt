use Rattle.std.proofs.Common.{◌≡◌, ◌++◌, drop, map}
use Rattle.std.specs.List.{flat_map}
use Rattle.program.specs.Names.{naming_of}
use Rattle.source_states.specs.Actions.{action_of}
use Rattle.actionlines.specs.Lines.{line}
use Rattle.actionlines.proofs.lines.action_lines.Given as goal

abbrev pub invariant-loop-action : goal.invariant-loop-action
invariant-loop-action l =
    l.bytes.items ++ flat_map (line (naming_of l.names)) (map action_of (drop l.action-index l.actions))
    ≡ flat_map (line (naming_of l.names)) (map action_of l.actions)
