use Rattle.std.proofs.Common.{ap, ◌∙◌}
use Rattle.std.proofs.lemmas.List.{drop_more}
use Rattle.source_table.specs.Tables.{table_of}
use Rattle.source_table.proofs.Waiters.{let_go_one}
use Rattle.source_table.proofs.table.Table.let_go.Goals as goal

pub loop-process-preserved : goal.loop-process-preserved
loop-process-preserved c =
    ap (λ w. record (table_of c.loop-process.self) { waits = w })
    (let_go_one c.args.resumed.now c.loop-process.process-index _ c.loop-process.self.waits c.remove.new.self
    (drop_more c.args.resumed.now c.loop-process.process-index _ c.loop-process-test.true)
    c.remove.ensures)
    ∙ c.loop-process.invariant
