use Rattle.std.proofs.Common.{◌≡◌}
use Rattle.log_simulation.specs.Going.{followed}
use Rattle.log_simulation.proofs.CatchingUp.{HasCaughtUp}
use Rattle.log_simulation.proofs.follower.Follower.catch_up.Given as goal

abbrev pub invariant-loop : goal.invariant-loop
invariant-loop l = record {
  checked : l.self.checked ≡ l.fn.self.checked;
  layout : l.self.layout ≡ l.fn.self.layout;
  catches_up : HasCaughtUp (followed l.fn.self) l.t l.count l.counter l.fn.self l.self;
}
