use Rattle.program.specs.Names.{said_by}
use Rattle.action_text.proofs.Refused.{refused_there}
use Rattle.action_text.proofs.following.first_refused.Goals as goal

pub returns : goal.returns
returns c =
    refused_there (said_by c.args.checked.now) c.args.actions.now c.in_ok-count.count c.in_ok-count.ensures c.requires
