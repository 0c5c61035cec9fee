use Rattle.std.proofs.Common.{◌≡◌, drop}
use Rattle.assembler.specs.Named.{row_named}
use Rattle.assembler.proofs.table.find.Given as goal

abbrev pub invariant-loop-row : goal.invariant-loop-row
invariant-loop-row l = row_named (drop l.row-index l.rows) l.name ≡ row_named l.rows l.name
