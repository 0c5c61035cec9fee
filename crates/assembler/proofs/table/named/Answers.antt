use Rattle.std.proofs.Common.{◌∙◌}
use Rattle.assembler.proofs.table.named.Goals as goal

pub returns : goal.returns
returns c = c.find.ensures ∙ c.rows.ensures c.args.name.now
