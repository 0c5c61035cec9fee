use Rattle.isa.proofs.ProgramLaws.{one_program, same_program, program_again}
use Rattle.isa.proofs.laws.one_spelling.Goals as goal

pub returns-clause-one : goal.returns-clause-one
returns-clause-one c = λ p q has too is also same. one_program p q has too is also same

pub returns-clause-same : goal.returns-clause-same
returns-clause-same c = λ p q versions is also same. same_program p q versions is also same

pub returns-clause-read : goal.returns-clause-read
returns-clause-read c = λ p has is. program_again p has is
