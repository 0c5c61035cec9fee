use Rattle.std.proofs.Common.{subst}
use Rattle.image_states.specs.Nexts.{may_of}
use Rattle.image_search.specs.Found.{EndsStuck, LeadsTo}
use Rattle.image_search.proofs.ends.stuck_at.Goals as goal

pub returns-then-branch : goal.returns-then-branch
returns-then-branch c =
    subst (LeadsTo c.args.image.now (may_of c.args.outside) EndsStuck) c.as_slice-listed.ensures.value
    (c.in_ok-is_stuck_run.ensures c.if-branch.true)
