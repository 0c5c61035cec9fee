use Rattle.words.specs.declared.version.ImageVersion.TheVariants.{Linux}
use Rattle.compiler.specs.Accepts.{RefusesTextAs}
use Rattle.answers.proofs.Refusing.{left_by, refused_or_memory}
use Rattle.answers.proofs.Told.{memory_alone, ok_so}
use Rattle.answers.proofs.compiling.answer_emit.Goals as goal

pub returns-in_err-checked-clause-refused : goal.returns-in_err-checked-clause-refused
returns-in_err-checked-clause-refused c =
    left_by _ _ _ c.from_residual.ensures
    (λ n gives. refused_or_memory (RefusesTextAs Linux c.args.text.now.bytes.now) c.in_err-checked.field-0.0 n c.in_err-checked.ensures.compiled gives)

pub returns-clause-done : goal.returns-clause-done
returns-clause-done c =
    ok_so c.c_answer.result _ _
    (λ a tells. record {
      image = c.in_ok-checked.lowered.image;
      compiled = c.in_ok-checked.ensures.compiled.compiled;
      tells = tells;
    }) c.c_answer.ensures.told

pub returns-clause-refused : goal.returns-clause-refused
returns-clause-refused c = memory_alone _ _ c.c_answer.ensures.failed
