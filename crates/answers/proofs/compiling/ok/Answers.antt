use Rattle.std.proofs.Common.{refl, rules}
use Rattle.answers.proofs.Told.{are_puts}
use Rattle.answers.proofs.compiling.ok.Goals as goal

pub returns-clause-told : goal.returns-clause-told
returns-clause-told c = record {
  ended = c.quiet.ensures.status;
  output = search rules;
  account = c.quiet.ensures.account;
  files = are_puts _ _ _ _ c.quiet.ensures.files c.only.ensures.out c.only.ensures.timeline c.only.ensures.page c.only.ensures.schedule c.only.ensures.actions refl;
}
