-- Nobody has the number 0.
use Rattle.std.proofs.Common.{◌+◌, arith}
use Rattle.machine.specs.Views.{concrete}
use Rattle.machine.proofs.Ables.{least_some}
use Rattle.machine.proofs.machine.Machine.next_able.Goals as goal

pub returns : goal.returns
returns c =
    least_some (concrete c.args.self.now) c.args.from (c.saturating_sub.result + 1) c.next_able_behind.result
    (omega (arith, c.saturating_sub.ensures)) (omega (arith, c.saturating_sub.ensures)) c.next_able_behind.ensures
