use Rattle.std.proofs.Common.{sym, ◌∙◌}
use Rattle.source_table.proofs.Sameness.{same_table}
use Rattle.source_table.proofs.table.Table.is_same.Goals as goal

pub returns : goal.returns
returns c = λ same. same_table c.args.self.now c.args.other.now (sym c.eq.ensures ∙ same)
