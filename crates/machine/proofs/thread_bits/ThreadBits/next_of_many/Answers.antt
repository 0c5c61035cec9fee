-- The words up to that of the last one tell as much as all.
use Rattle.std.proofs.Common.{arith}
use Rattle.machine.proofs.Leasts.{within}
use Rattle.machine.proofs.thread_bits.ThreadBits.next_of_many.Goals as goal

pub returns : goal.returns
returns c =
    within c.args.self.now.words c.args.t c.args.last c.div_ceil-words.result c.least_from.result c.requires.from.0
    (omega (arith, c.div_ceil-words.ensures)) c.requires.none c.least_from.ensures
