use Rattle.proof_thread.proofs.Evaluating.{expressions_evaluate}
use Rattle.proof_thread.proofs.law.expressions_evaluate.Goals as goal

pub returns : goal.returns
returns c = expressions_evaluate
