use Rattle.std.proofs.Common.{rules, ℕ, Option, None, ap, ◌∙◌}
use Rattle.words.specs.Updates.{put}
use Rattle.program.specs.declared.kinds.Member.{Member}
use Rattle.meaning.specs.Table.{Table}
use Rattle.source_table.specs.Tables.{table_of}
use Rattle.source_table.proofs.Tables.{put_in}
use Rattle.source_table.proofs.table.Table.kill.Goals as goal

pub returns : goal.returns
returns c = (
  search rules,
  ap (λ (w : ℕ → Option Member). record (table_of c.let_go.new.self) { waits = w })
      (put_in (λ o. o) c.let_go.new.self.waits c.remove.new.self c.args.process None c.remove.ensures)
      ∙ ap (λ (t : Table). record t { waits = put t.waits c.args.process None }) c.let_go.ensures,
)
