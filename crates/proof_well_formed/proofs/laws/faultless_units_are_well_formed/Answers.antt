use Rattle.proof_well_formed.proofs.WellFormedUnits.{well_formed}
use Rattle.proof_well_formed.proofs.laws.faultless_units_are_well_formed.Goals as goal

pub returns : goal.returns
returns c = well_formed
