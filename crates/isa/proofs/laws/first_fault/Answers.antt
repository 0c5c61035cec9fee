use Rattle.isa.proofs.FaultLaws.{first_fault, short_beginning}
use Rattle.isa.proofs.laws.first_fault.Goals as goal

pub returns-clause-first : goal.returns-clause-first
returns-clause-first c = λ bytes fault byte is. first_fault bytes fault byte is

pub returns-clause-short : goal.returns-clause-short
returns-clause-short c = λ p front b behind has is parts. short_beginning p front b behind has is parts
