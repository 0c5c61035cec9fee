use Rattle.meaning.proofs.Ends.{over_in_runs, printed_grows}
use Rattle.meaning.proofs.laws.end_laws.Goals as goal

pub returns-clause-printed : goal.returns-clause-printed
returns-clause-printed c = λ p a s s' step. printed_grows p a s s' step

pub returns-clause-stays : goal.returns-clause-stays
returns-clause-stays c = λ p actions a s s' q end run step over. over_in_runs p actions a s s' q end run step over
