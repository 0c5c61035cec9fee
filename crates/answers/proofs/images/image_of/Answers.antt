use Rattle.answers.proofs.Refusing.{left_by, not_image}
use Rattle.answers.proofs.images.image_of.Goals as goal

pub returns-in_err-decode-clause-failed : goal.returns-in_err-decode-clause-failed
returns-in_err-decode-clause-failed c =
    left_by _ _ _ c.from_residual.ensures
    (λ f gives. not_image c.args.bytes.now c.in_err-decode.field-0.0 f c.in_err-decode.ensures.exact gives)
