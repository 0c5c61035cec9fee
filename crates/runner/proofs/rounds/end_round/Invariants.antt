use Rattle.std.proofs.Common.{◌≤◌, ◌-◌, List}
use Rattle.words.specs.Limits.{most_threads}
use Rattle.machine.specs.declared.event.Entry.{Entry}
use Rattle.runner.specs.Orders.{GoesOnTo}
use Rattle.runner.specs.Rounds.{AllPast}
use Rattle.runner.specs.Views.{log_state}
use Rattle.runner.proofs.Ordering.{HasComeTo}
use Rattle.runner.proofs.rounds.end_round.Given as goal

abbrev pub invariant-loop-t : goal.invariant-loop-t
invariant-loop-t g l = record {
  past : AllPast g.J.RunName.program g.J.RunName.limit (log_state l.shared) l.refused;
  few : l.t ≤ most_threads;
  order : (start : List Entry)
      → GoesOnTo g.J.RunName.program g.J.RunName.limit start l.initial.shared.log 1
      → HasComeTo g.J.RunName.program g.J.RunName.limit start (log_state l.shared) l.t;
}

abbrev pub decreases-loop-t : goal.decreases-loop-t
decreases-loop-t g l = most_threads - l.t
