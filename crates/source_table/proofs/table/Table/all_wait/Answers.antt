use Rattle.std.proofs.Common.{rules}
use Rattle.std.proofs.lemmas.List.{drop_more}
use Rattle.source_table.specs.Tables.{table_of}
use Rattle.source_table.proofs.Waiters.{all_wait-on}
use Rattle.source_table.proofs.table.Table.all_wait.Goals as goal

pub loop-process-preserved : goal.loop-process-preserved
loop-process-preserved c =
    all_wait-on (table_of c.args.self.now) c.args.condition c.args.resumed.now c.loop-process.process-index _
    (drop_more c.args.resumed.now c.loop-process.process-index 0 c.loop-process-test.true)
    (search rules)
    c.loop-process.invariant
