use Rattle.std.proofs.Common.{subst}
use Rattle.image_states.specs.Nexts.{may_of}
use Rattle.image_search.specs.Found.{EndsFailed, LeadsTo}
use Rattle.image_search.proofs.ends.failed_at.Goals as goal

pub returns-then-branch : goal.returns-then-branch
returns-then-branch c =
    subst (LeadsTo c.args.image.now (may_of c.args.outside) EndsFailed) c.as_slice-listed.ensures.value
    (c.in_ok-is_failed_run.ensures c.if-branch.true)
