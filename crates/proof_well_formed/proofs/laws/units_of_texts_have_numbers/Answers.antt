use Rattle.proof_well_formed.proofs.TokenNumbers.{have_numbers}
use Rattle.proof_well_formed.proofs.laws.units_of_texts_have_numbers.Goals as goal

pub returns : goal.returns
returns c = have_numbers
