use Rattle.std.proofs.Common.{Some, ap, ◌∙◌}
use Rattle.packed_log.proofs.Entries.{empty_last, last_head}
use Rattle.packed_log.proofs.packed_log.last_head.Goals as goal

pub returns : goal.returns
returns c =
    ap Some c.widen.ensures
    ∙ last_head c.args.heads.now c.args.wide.now (Some c.in_ok-head.head.now)
    (empty_last c.args.wide.now c.in_default.ensures.value) c.in_ok-head.ensures.value
