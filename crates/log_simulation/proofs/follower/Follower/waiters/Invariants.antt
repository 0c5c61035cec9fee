use Rattle.std.proofs.Common.{◌≡◌}
use Rattle.log_simulation.specs.Shown.{shown}
use Rattle.protocol.specs.Carries.{chosen_from}
use Rattle.source_states.specs.States.{state_of}
use Rattle.log_simulation.specs.Waiting.{is_awake}
use Rattle.log_simulation.proofs.follower.Follower.waiters.Given as goal

abbrev pub invariant-loop-before : goal.invariant-loop-before
invariant-loop-before l =
    l.waiters.items ≡ chosen_from (is_awake l.word.0 (shown l.machine) (state_of l.self.state).table
    l.condition) l.before 1
