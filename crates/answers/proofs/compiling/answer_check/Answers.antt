use Rattle.compiler.specs.Accepts.{RefusesProgram}
use Rattle.answers.proofs.Refusing.{left_by, refused_or_memory}
use Rattle.answers.proofs.Told.{memory_alone, ok_so}
use Rattle.answers.proofs.compiling.answer_check.Goals as goal

pub returns-in_err-check_text-clause-refused : goal.returns-in_err-check_text-clause-refused
returns-in_err-check_text-clause-refused c =
    left_by _ _ _ c.from_residual.ensures
    (λ n gives. refused_or_memory (RefusesProgram c.args.text.now.bytes.now) c.in_err-check_text.field-0.0 n c.in_err-check_text.ensures gives)

pub returns-clause-done : goal.returns-clause-done
returns-clause-done c =
    ok_so c.ok.result _ _
    (λ a tells. record {
      program = c.in_ok-check_text.ensures.0;
      accepts = c.in_ok-check_text.ensures.1;
      tells = tells;
    }) c.ok.ensures.told

pub returns-clause-refused : goal.returns-clause-refused
returns-clause-refused c = memory_alone _ _ c.ok.ensures.failed
