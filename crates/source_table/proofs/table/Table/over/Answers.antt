use Rattle.std.proofs.Common.{rules}
use Rattle.source_table.proofs.table.Table.over.Goals as goal

pub returns : goal.returns
returns c = search rules
