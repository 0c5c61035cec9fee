use Rattle.std.proofs.Common.{◌∙◌, ap, refl}
use Rattle.answers.specs.Answers.{log_put}
use Rattle.answers.proofs.answer.Answer.of_report.Goals as goal

pub returns-clause-told : goal.returns-clause-told
returns-clause-told c = record {
  ended = c.status_of.ensures;
  output = c.in_ok-output.ensures;
  account = c.in_ok-account.ensures;
  files = (c.in_ok-out.ensures ∙ ap (log_put c.args.log) c.iter.ensures, refl, refl, refl, refl);
}
