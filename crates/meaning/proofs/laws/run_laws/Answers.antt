use Rattle.meaning.specs.States.{opening}
use Rattle.meaning.proofs.Unique.{step_once}
use Rattle.meaning.proofs.Led.{leads_more, leads_split, leads_once}
use Rattle.meaning.proofs.laws.run_laws.Goals as goal

pub returns-clause-goes_on : goal.returns-clause-goes_on
returns-clause-goes_on c = λ p actions a s s' run step. leads_more p (opening p) s s' actions a run step

pub returns-clause-begins : goal.returns-clause-begins
returns-clause-begins c = λ p first later s run. leads_split p (opening p) s first later run

pub returns-clause-one : goal.returns-clause-one
returns-clause-one c = λ p a s left right x y. step_once p a s left right x y

pub returns-clause-one_end : goal.returns-clause-one_end
returns-clause-one_end c = λ p actions left right x y. leads_once p (opening p) left right actions x y
