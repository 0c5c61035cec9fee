use Rattle.meaning.proofs.Versions.{step_as, step_of}
use Rattle.meaning.proofs.laws.step_laws.Goals as goal

pub returns-clause-as_other : goal.returns-clause-as_other
returns-clause-as_other c = λ v p a s s' step. step_as v p s s' a step

pub returns-clause-of_other : goal.returns-clause-of_other
returns-clause-of_other c = λ v p a s s' step. step_of v p s s' a step
