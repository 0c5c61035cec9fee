use Rattle.proof_simulation.proofs.Explaining.{due, reached, explained_so}
use Rattle.proof_simulation.proofs.law.run_explains.Goals as goal

pub returns-clause-reached : goal.returns-clause-reached
returns-clause-reached c = reached

pub returns-clause-due : goal.returns-clause-due
returns-clause-due c = λ p w steps s g r l s' st short e. due p w steps s g r l s' st short e

pub returns-clause-explained : goal.returns-clause-explained
returns-clause-explained c = explained_so
