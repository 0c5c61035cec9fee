use Rattle.std.proofs.Common.{Some}
use Rattle.machine.specs.ConcreteServing.{plain}
use Rattle.packed_log.proofs.Fields.{wide_head}
use Rattle.packed_log.proofs.head.wide_plain_head.Goals as goal

pub returns : goal.returns
returns c =
    wide_head (record { thread = c.args.thread; local = c.args.local; event = Some (plain c.args.name c.args.value) })
    c.plain_head.result c.plain_head.ensures
