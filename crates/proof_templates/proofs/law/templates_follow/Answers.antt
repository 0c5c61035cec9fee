use Rattle.proof_templates.proofs.Begins.{begins}
use Rattle.proof_templates.proofs.Follows.{follows}
use Rattle.proof_templates.proofs.law.templates_follow.Goals as goal

pub returns-clause-follows : goal.returns-clause-follows
returns-clause-follows c = follows

pub returns-clause-begins : goal.returns-clause-begins
returns-clause-begins c = begins
