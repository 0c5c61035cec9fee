use Rattle.compiler.specs.Accepts.{RefusesTextAs}
use Rattle.answers.proofs.Refusing.{left_by, refused_or_memory}
use Rattle.answers.proofs.Told.{memory_alone, ok_so}
use Rattle.answers.proofs.compiling.answer_compile.Goals as goal

pub returns-in_err-image-clause-refused : goal.returns-in_err-image-clause-refused
returns-in_err-image-clause-refused g c =
    left_by _ _ _ c.from_residual.ensures
    (λ n gives. refused_or_memory (RefusesTextAs c.args.version c.args.text.now.bytes.now) c.in_err-image.field-0.0 n c.in_err-image.ensures.refusal gives)

pub returns-clause-done : goal.returns-clause-done
returns-clause-done g c =
    ok_so c.image_answer.result _ _
    (λ a tells. record { image = c.in_ok-image.image; compiled = c.in_ok-image.ensures.accepted; tells = tells })
    c.image_answer.ensures.told

pub returns-clause-refused : goal.returns-clause-refused
returns-clause-refused g c = memory_alone _ _ c.image_answer.ensures.failed
