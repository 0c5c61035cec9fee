use Rattle.std.proofs.Common.{option_copied}
use Rattle.packed_log.proofs.Fields.{wide_head}
use Rattle.packed_log.proofs.head.wide_head_of.Goals as goal

pub returns : goal.returns
returns c =
    wide_head (record { thread = c.args.thread; local = c.args.local; event = option_copied c.args.event })
    c.head_of.result c.head_of.ensures
