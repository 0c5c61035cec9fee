use Rattle.std.proofs.Common.{◌↔◌, drop}
use Rattle.meaning.specs.Table.{AllWait}
use Rattle.source_table.specs.Tables.{table_of}
use Rattle.source_table.proofs.table.Table.all_wait.Given as goal

abbrev pub invariant-loop-process : goal.invariant-loop-process
invariant-loop-process l =
    AllWait (table_of l.self) l.condition (drop l.process-index l.resumed)
    ↔ AllWait (table_of l.self) l.condition l.resumed
