use Rattle.std.proofs.Common.{drop}
use Rattle.source_table.proofs.Waiters.{IsRest}
use Rattle.source_table.proofs.table.Table.names_all.Given as goal

abbrev pub invariant-loop-process : goal.invariant-loop-process
invariant-loop-process l =
    IsRest l.self.waits l.condition l.resumed (drop l.process-index l.process-items)
