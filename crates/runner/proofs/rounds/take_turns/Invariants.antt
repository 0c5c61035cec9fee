use Rattle.std.proofs.Common.{◌≤◌, ◌-◌, ◌+◌, ◌*◌, List, Some, false}
use Rattle.words.specs.Limits.{most_threads}
use Rattle.machine.specs.declared.event.Entry.{Entry}
use Rattle.piece_machine.specs.PieceDetermined.{IsFit}
use Rattle.runner.specs.Logs.{Runs, cost, opening}
use Rattle.runner.specs.Orders.{HasBegun}
use Rattle.runner.specs.Rounds.{AllPast, IsTurn}
use Rattle.runner.specs.Views.{log_state}
use Rattle.runner.specs.Waits.{AllWait}
use Rattle.runner.proofs.Ordering.{IsOnTurn}
use Rattle.runner.proofs.rounds.take_turns.Given as goal

abbrev pub invariant-loop-made : goal.invariant-loop-made
invariant-loop-made g l = record {
  past : AllPast g.J.RunName.program g.J.RunName.limit (log_state l.shared) l.refused;
  waits : AllWait g.J.RunName.program (log_state l.shared).concrete l.waiting;
  legal : Runs g.J.RunName.program (opening g.J.RunName.program) l.shared.log (log_state l.shared).concrete;
  fit : IsFit g.J.RunName.program (log_state l.shared).concrete;
  turn : IsTurn g.J.RunName.program g.J.RunName.limit l.before (log_state l.shared) (Some l.t);
  within : l.before ≤ g.J.RunName.limit;
  order : (start : List Entry)
      → HasBegun false g.J.RunName.program g.J.RunName.limit start (log_state l.initial.shared)
      → IsOnTurn g.J.RunName.program g.J.RunName.limit start (log_state l.shared) l.t;
}

-- an entry makes the log longer, and a round that ends behind a turn without one is behind the last such round; else the
-- thread's number rises
abbrev pub decreases-loop-made : goal.decreases-loop-made
decreases-loop-made g l =
    ((g.J.RunName.limit - cost l.shared.log) + (g.J.RunName.limit - l.before)) * (most_threads + 1) + (most_threads - l.t)
