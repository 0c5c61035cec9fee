use Rattle.std.proofs.Common.{◌≡◌, Bool, IfErr, List, Result, subst, sym, ℕ}
use Rattle.answers.specs.Causes.{CannotList, IsNoImage}
use Rattle.answers.specs.Done.{RefusesListed}
use Rattle.answers.specs.Failures.{IsLeftBy}
use Rattle.answers.specs.declared.failure.NoAnswer.{NoAnswer}
use Rattle.answers.proofs.Refusing.{failure_left, left_by}
use Rattle.answers.proofs.listing.listed_image.Goals as goal

-- it is so of what is listed
left_of : {T : Type 0} (r : Result T NoAnswer) (linux same : Bool) (bytes : List ℕ) → linux ≡ same
    → IfErr r (IsLeftBy (RefusesListed same bytes) (λ e. ⊥) (CannotList same bytes))
    → IfErr r (IsLeftBy (RefusesListed linux bytes) (λ e. ⊥) (CannotList linux bytes))
left_of r linux same bytes is h =
    subst (λ (b : Bool). IfErr r (IsLeftBy (RefusesListed b bytes) (λ e. ⊥) (CannotList b bytes))) (sym is) h

pub returns-then-linux-clause-left : goal.returns-then-linux-clause-left
returns-then-linux-clause-left c = left_of _ _ _ _ c.if-linux.true c.code_for_linux.ensures.left

pub returns-in_err-image_of-clause-left : goal.returns-in_err-image_of-clause-left
returns-in_err-image_of-clause-left c =
    left_of _ _ _ _ c.if-linux.false
    (left_by _ _ _ c.from_residual.ensures
    (λ n gives. failure_left (λ e. ⊥) (λ e. ⊥) (IsNoImage c.args.text.now.bytes.now) n c.in_err-image_of.field-0.0 gives
    c.in_err-image_of.ensures.failed))
