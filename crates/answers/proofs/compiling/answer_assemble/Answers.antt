use Rattle.assembler.specs.Listings.{RefusesText}
use Rattle.answers.proofs.Refusing.{left_by, unassembled_by}
use Rattle.answers.proofs.Told.{no_memory, ok_so}
use Rattle.answers.proofs.compiling.answer_assemble.Goals as goal

pub returns-in_err-assembled-clause-left : goal.returns-in_err-assembled-clause-left
returns-in_err-assembled-clause-left c =
    left_by _ _ _ c.from_residual.ensures
    (λ n gives. unassembled_by (λ e. ⊥) (RefusesText c.args.text.now.bytes.now) (λ f. ⊥) c.in_err-assembled.field-0.0 n
    c.in_err-assembled.ensures.refused gives)

pub returns-clause-done : goal.returns-clause-done
returns-clause-done c =
    ok_so c.image_answer.result _ _
    (λ a tells. record {
      image = c.in_ok-assembled.assembled.image;
      assembled = c.in_ok-assembled.ensures.image;
      tells = tells;
    }) c.image_answer.ensures.told

pub returns-clause-left : goal.returns-clause-left
returns-clause-left c = no_memory c.image_answer.result _ _ _ c.image_answer.ensures.failed
