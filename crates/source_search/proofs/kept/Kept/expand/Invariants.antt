use Rattle.std.proofs.Common.{All, take}
use Rattle.program.specs.Views.{program_of}
use Rattle.source_states.specs.States.{state_of}
use Rattle.source_search.specs.Kept.{IsFollowed, IsLonger, IsSound, states_of}
use Rattle.source_search.proofs.kept.Kept.expand.Given as goal

abbrev pub invariant-loop-number : goal.invariant-loop-number
invariant-loop-number l = record {
  sound : IsSound l.self;
  longer : IsLonger (states_of l.fn.self) (states_of l.self);
  all : All (IsFollowed (program_of l.checked.tree) l.outside (states_of l.self) (state_of l.state))
      (take l.number-index l.numbers);
}
