-- The statements in a `Vec` that a statement holds.
use Rattle.std.proofs.Common.{◌≡◌, refl, ap, ◌∙◌, Vec, Global}
use Rattle.program.specs.declared.statement.Statement.{Statement as StatementOf, Row_of-Statement, end_of-Statement}
use Rattle.program.specs.declared.statement.Statement.{more_of-Statement, items-the_row-Statement}
use Rattle.program.specs.declared.statement.Statement.{items_hidden-the_row-Statement-0}
use Rattle.program.specs.declared.statement.Statement.TheBlock.{hidden-the_row-Statement-0}
use Rattle.program.specs.Trees.{Then}
use Rattle.program.specs.Views.{block_of, block_in, statement_of}

row_block : {n : _} (row : Row_of-Statement n) → block_of row ≡ block_in (items-the_row-Statement _ row)
row_block end_of-Statement = refl
row_block (more_of-Statement s row) = ap (λ b. Then (statement_of s) b) (row_block row)

pub inner_block : (v : Vec StatementOf Global) → block_of (hidden-the_row-Statement-0 v) ≡ block_in v.items
inner_block v = row_block (hidden-the_row-Statement-0 v) ∙ ap block_in (items_hidden-the_row-Statement-0 v)
