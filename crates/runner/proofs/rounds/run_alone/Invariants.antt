use Rattle.std.proofs.Common.{◌-◌, ◌≡◌, true}
use Rattle.machine.specs.ConcreteSteps.{can_move}
use Rattle.runner.specs.Logs.{cost}
use Rattle.runner.specs.Orders.{HasGoneAlone}
use Rattle.runner.specs.Views.{log_state}
use Rattle.runner.proofs.rounds.run_alone.Given as goal

abbrev pub invariant-loop-moves : goal.invariant-loop-moves
invariant-loop-moves g l = record {
  order : HasGoneAlone g.J.RunName.program g.J.RunName.limit l.t (log_state l.initial.shared) (log_state l.shared);
  given : l.shared.given ≡ l.initial.shared.given;
  moves : l.moves ≡ true → can_move (log_state l.shared).concrete.concrete l.t ≡ true;
}

abbrev pub decreases-loop-moves : goal.decreases-loop-moves
decreases-loop-moves g l = g.J.RunName.limit - cost l.shared.log
