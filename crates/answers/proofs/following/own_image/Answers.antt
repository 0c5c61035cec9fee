use Rattle.std.proofs.Common.{◌≡◌, List, ℕ, IfErr, Result, subst, sym}
use Rattle.assembler.specs.Listings.{RefusesText}
use Rattle.commandline.specs.declared.options.ImageForm.{ImageForm}
use Rattle.answers.specs.Causes.{HasNoImage, IsNoImage}
use Rattle.answers.specs.Failures.{IsLeftBy}
use Rattle.answers.specs.Images.{UnassemblesAs}
use Rattle.answers.specs.declared.failure.NoAnswer.{NoAnswer}
use Rattle.answers.proofs.Refusing.{failure_left, left_by, unassembled_by}
use Rattle.answers.proofs.following.own_image.Goals as goal

-- it is so of the form that the file has
left_of : {T : Type 0} (r : Result T NoAnswer) (form same : ImageForm) (bytes : List ℕ) → form ≡ same
    → IfErr r (IsLeftBy (λ e. ⊥) (UnassemblesAs same bytes) (HasNoImage same bytes))
    → IfErr r (IsLeftBy (λ e. ⊥) (UnassemblesAs form bytes) (HasNoImage form bytes))
left_of r form same bytes is h =
    subst (λ (f : ImageForm). IfErr r (IsLeftBy (λ e. ⊥) (UnassemblesAs f bytes) (HasNoImage f bytes))) (sym is) h

pub returns-in_err-assemble-in-Assembly-clause-left : goal.returns-in_err-assemble-in-Assembly-clause-left
returns-in_err-assemble-in-Assembly-clause-left c =
    left_of _ _ _ _ c.in-Assembly.is
    (left_by _ _ _ c.from_residual.ensures
    (λ n gives. unassembled_by (λ e. ⊥) (RefusesText c.args.bytes.now) (λ f. ⊥)
    c.in_err-assemble-in-Assembly.field-0.0 n c.in_err-assemble-in-Assembly.ensures.refused gives))

pub returns-in_err-image_of-in-Image-clause-left : goal.returns-in_err-image_of-in-Image-clause-left
returns-in_err-image_of-in-Image-clause-left c =
    left_of _ _ _ _ c.in-Image.is
    (left_by _ _ _ c.from_residual-in_err-image_of-in-Image.ensures
    (λ n gives. failure_left (λ e. ⊥) (λ e. ⊥) (IsNoImage c.args.bytes.now) n c.in_err-image_of-in-Image.field-0.0 gives
    c.in_err-image_of-in-Image.ensures.failed))
