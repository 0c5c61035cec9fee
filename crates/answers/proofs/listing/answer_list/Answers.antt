use Rattle.std.proofs.Common.{inl, inr}
use Rattle.answers.proofs.Beside.{is_listed}
use Rattle.answers.proofs.Refusing.{left_as}
use Rattle.answers.proofs.Told.{left_so, lefts_so}
use Rattle.answers.proofs.listing.answer_list.Goals as goal

pub returns-in_err-image-clause-left : goal.returns-in_err-image-clause-left
returns-in_err-image-clause-left c =
    left_as _ _ _ c.from_residual.ensures
    (left_so _ _ _ _ _ _ c.in_err-image.field-0.0 (λ e h. inl h) (λ e h. h) (λ f h. inl h) c.in_err-image.ensures.left)

pub returns-clause-done : goal.returns-clause-done
returns-clause-done c =
    is_listed c.list_image.result _ _ _ _ c.in_ok-image.image c.in_ok-image.ensures.image c.list_image.ensures.same
    c.list_image.ensures.done

pub returns-clause-left : goal.returns-clause-left
returns-clause-left c =
    lefts_so c.list_image.result _ _ _ _ _ _
    (λ e refuses. inr (record { image = c.in_ok-image.image; is = c.in_ok-image.ensures.image; refuses = refuses }))
    (λ e h. h) (λ f h. inr (c.in_ok-image.image, c.in_ok-image.ensures.image, h)) c.list_image.ensures.left
