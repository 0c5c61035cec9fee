use Rattle.std.proofs.Common.{All, map, take}
use Rattle.program.specs.Views.{program_of}
use Rattle.source_states.specs.Actions.{action_of}
use Rattle.source_states.specs.States.{state_of}
use Rattle.source_search.specs.Kept.{IsLonger, IsSound, LeadsToKept, states_of}
use Rattle.source_search.proofs.kept.Kept.take_all.Given as goal

abbrev pub invariant-loop-choice : goal.invariant-loop-choice
invariant-loop-choice l = record {
  sound : IsSound l.self;
  longer : IsLonger (states_of l.fn.self) (states_of l.self);
  all : All (LeadsToKept (program_of l.checked.tree) (states_of l.self) (state_of l.state))
      (map action_of (take l.choice l.actions));
}
