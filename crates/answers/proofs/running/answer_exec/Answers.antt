use Rattle.std.proofs.Common.{inl, inr}
use Rattle.answers.proofs.Refusing.{left_as}
use Rattle.answers.proofs.Told.{left_so, lefts_so, ok_so}
use Rattle.answers.proofs.running.answer_exec.Goals as goal

pub returns-in_err-formed-clause-left : goal.returns-in_err-formed-clause-left
returns-in_err-formed-clause-left g c =
    left_as _ _ _ c.from_residual.ensures
    (left_so _ _ _ _ _ _ c.in_err-formed.field-0.0 (λ e h. h) (λ e h. h) (λ f h. inl h) c.in_err-formed.ensures.left)

pub returns-clause-done : goal.returns-clause-done
returns-clause-done g c =
    ok_so c.exec_image.result _ _
    (λ a runs. record {
      image = c.in_ok-formed.formed.image;
      is = c.in_ok-formed.ensures.image;
      runs = runs;
    }) c.exec_image.ensures.done

pub returns-clause-left : goal.returns-clause-left
returns-clause-left g c =
    lefts_so c.exec_image.result _ _ _ _ _ _ (λ e h. h) (λ e h. absurd h)
    (λ f h. inr (c.in_ok-formed.formed.image, c.in_ok-formed.ensures.image, h)) c.exec_image.ensures.left
