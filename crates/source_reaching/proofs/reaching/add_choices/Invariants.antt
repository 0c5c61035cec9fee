use Rattle.std.proofs.Common.{All, map, take}
use Rattle.program.specs.Views.{program_of}
use Rattle.source_states.specs.Actions.{action_of}
use Rattle.source_states.specs.States.{state_of}
use Rattle.source_reaching.specs.Among.{LeadsToEnds}
use Rattle.source_reaching.specs.Ends.{IsLonger}
use Rattle.source_reaching.specs.Ends.{ends_in}
use Rattle.source_reaching.proofs.reaching.add_choices.Given as goal

abbrev pub invariant-loop-later : goal.invariant-loop-later
invariant-loop-later l = record {
  longer : IsLonger (ends_in l.fn.ends.items) (ends_in l.ends.items);
  all : All (LeadsToEnds (program_of l.checked.tree) l.process (state_of l.state) (ends_in l.ends.items))
      (map action_of (take l.later l.actions));
}
