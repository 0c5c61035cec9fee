use Rattle.parser.proofs.Skips.{members_over, over}
use Rattle.parser.proofs.declaration.member.Goals as goal

pub returns-in_default-clause-ok : goal.returns-in_default-clause-ok
returns-in_default-clause-ok c = over (members_over _ c.in_default.ensures.0) c.in_default.ensures.1
