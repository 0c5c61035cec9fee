use Rattle.std.proofs.Common.{inr, refl, rules}
use Rattle.answers.proofs.following.run_by_linux.Goals as goal

pub returns-then-is_first-clause-left : goal.returns-then-is_first-clause-left
returns-then-is_first-clause-left c = inr (refl, search rules)
