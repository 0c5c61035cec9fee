use Rattle.program.specs.Views.{program_of}
use Rattle.source_states.specs.States.{state_of}
use Rattle.source_reaching.specs.Among.{IsAheadAmong}
use Rattle.source_reaching.proofs.follow.follow_own.Given as goal

abbrev pub invariant-loop : goal.invariant-loop
invariant-loop g l =
    IsAheadAmong (program_of l.checked.tree) l.process (state_of l.fn.state) (state_of l.state)
