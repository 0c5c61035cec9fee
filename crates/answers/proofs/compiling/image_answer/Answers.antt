use Rattle.std.proofs.Common.{ℕ, List, Some, ap, rules}
use Rattle.answers.proofs.Told.{are_puts}
use Rattle.answers.proofs.compiling.image_answer.Goals as goal

pub returns-clause-told : goal.returns-clause-told
returns-clause-told c = record {
  ended = c.quiet.ensures.status;
  output = rw (← c.code-count.ensures.value) (search rules);
  account = c.quiet.ensures.account;
  files = are_puts _ _ _ _ c.quiet.ensures.files c.only.ensures.out c.only.ensures.timeline c.only.ensures.page c.only.ensures.schedule c.only.ensures.actions
      (ap (λ (xs : List ℕ). Some (c.args.out, xs)) c.in_ok-bytes.ensures.bytes);
}
