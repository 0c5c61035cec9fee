use Rattle.std.proofs.Common.{◌∙◌, List, ℕ, subst, sym}
use Rattle.answers.specs.Answers.{AreDrawn}
use Rattle.answers.specs.Answers.{AreTold}
use Rattle.answers.specs.Done.{explained_lines}
use Rattle.answers.proofs.explaining.run_answer.Goals as goal

pub returns-clause-told : goal.returns-clause-told
returns-clause-told c = record {
  ended = c.quiet.ensures.status ∙ c.status_of.ensures;
  are_told = subst (λ (xs : List ℕ). AreTold c.args.places (explained_lines c.args.run.now) xs) (sym c.quiet.ensures.output)
      c.in_ok-lines.ensures;
  account = c.quiet.ensures.account;
  files = subst (AreDrawn c.args.drawings.chart c.args.drawings.timeline c.args.drawings.page) (sym c.quiet.ensures.files)
      c.in_ok-files.ensures;
}
