use Rattle.std.proofs.Common.{List, ℕ, is_some, refl, subst, sym}
use Rattle.isa.specs.Lines.{lines}
use Rattle.answers.specs.Answers.{AreTold}
use Rattle.answers.proofs.Refusing.{left_as, left_by, memory_left}
use Rattle.answers.proofs.Told.{are_puts}
use Rattle.answers.proofs.listing.list_image.Goals as goal

pub returns-in_err-lines-clause-left : goal.returns-in_err-lines-clause-left
returns-in_err-lines-clause-left c = left_by _ _ _ c.from_residual.ensures (λ n gives. memory_left _ _ _ n gives)

pub returns-in_err-output-clause-left : goal.returns-in_err-output-clause-left
returns-in_err-output-clause-left c = left_as _ _ _ c.from_residual-in_err-output.ensures c.in_err-output.ensures.left

pub returns-clause-done : goal.returns-clause-done
returns-clause-done c = record {
  ended = c.quiet.ensures.status;
  are_told = subst (λ (xs : List ℕ). AreTold (is_some c.args.source) (lines 0 c.args.image.now.code) xs)
      (sym c.quiet.ensures.output)
      (subst (λ (xs : List ℕ). AreTold (is_some c.args.source) xs c.in_ok-output.output.items) c.in_ok-lines.ensures
      c.in_ok-output.ensures.told);
  account = c.quiet.ensures.account;
  files = are_puts _ _ _ _ c.quiet.ensures.files c.only.ensures.out c.only.ensures.timeline c.only.ensures.page c.only.ensures.schedule c.only.ensures.actions
      refl;
}
