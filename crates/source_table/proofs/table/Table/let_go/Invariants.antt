use Rattle.std.proofs.Common.{◌≡◌, drop}
use Rattle.meaning.specs.Table.{without_waiters}
use Rattle.source_table.specs.Tables.{table_of}
use Rattle.source_table.proofs.table.Table.let_go.Given as goal

abbrev pub invariant-loop-process : goal.invariant-loop-process
invariant-loop-process l =
    record (table_of l.self) { waits = without_waiters (drop l.process-index l.resumed) (table_of l.self).waits }
    ≡ record (table_of l.fn.self) { waits = without_waiters l.resumed (table_of l.fn.self).waits }
