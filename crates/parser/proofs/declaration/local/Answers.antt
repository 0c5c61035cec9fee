use Rattle.parser.proofs.Skips.{locals_over, over}
use Rattle.parser.proofs.declaration.local.Goals as goal

pub returns-in_default-clause-ok : goal.returns-in_default-clause-ok
returns-in_default-clause-ok c = over (locals_over _ c.in_default.ensures.0) c.in_default.ensures.1
