use Rattle.answers.proofs.Refusing.{left_as}
use Rattle.answers.proofs.Told.{no_memory, ok_so}
use Rattle.answers.proofs.explaining.answer_explain.Goals as goal

pub returns-in_err-run-clause-left : goal.returns-in_err-run-clause-left
returns-in_err-run-clause-left c =
    left_as _ _ _ c.from_residual.ensures c.in_err-run.ensures.left

pub returns-clause-done : goal.returns-clause-done
returns-clause-done c =
    ok_so c.run_answer.result _ _
    (λ a tells. record { explained_run = c.in_ok-run.run'; explained = c.in_ok-run.ensures.run; tells = tells })
    c.run_answer.ensures.told

pub returns-clause-left : goal.returns-clause-left
returns-clause-left c = no_memory _ _ _ _ c.run_answer.ensures.failed
