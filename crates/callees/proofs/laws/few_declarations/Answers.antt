use Rattle.callees.proofs.Counted.{declared_lexemes, few_declared}
use Rattle.callees.proofs.laws.few_declarations.Goals as goal

pub returns-clause-lexemes : goal.returns-clause-lexemes
returns-clause-lexemes c = λ u. declared_lexemes u

pub returns-clause-text : goal.returns-clause-text
returns-clause-text c = λ text ts u h e. few_declared text ts u h e
