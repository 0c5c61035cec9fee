use Rattle.std.proofs.Common.{◌≡◌, ◌≤◌, ◌+◌, ◌++◌, length, map}
use Rattle.std.specs.List.{All}
use Rattle.program.specs.Names.{naming_of}
use Rattle.source_states.specs.Actions.{action_of}
use Rattle.action_text.specs.ActionText.{run_lines}
use Rattle.action_text.specs.Sized.{IsReadable}
use Rattle.action_text.proofs.reading.read_actions.Given as goal

abbrev pub invariant-loop-rest : goal.invariant-loop-rest
invariant-loop-rest l = record {
  cut : l.text ≡ run_lines (naming_of l.names) (map action_of l.actions.items) ++ l.rest;
  readable : All (IsReadable (naming_of l.names)) (map action_of l.actions.items);
  number : l.number ≡ length (map action_of l.actions.items);
  few : l.number + length l.rest ≤ length l.text;
}

abbrev pub decreases-loop-rest : goal.decreases-loop-rest
decreases-loop-rest l = length l.rest
