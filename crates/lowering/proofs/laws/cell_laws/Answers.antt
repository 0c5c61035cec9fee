use Rattle.lowering.proofs.CellLaws.{cells_apart, cell_above}
use Rattle.lowering.proofs.laws.cell_laws.Goals as goal

pub returns : goal.returns
returns c = record { apart = cells_apart; above = cell_above }
