use Rattle.std.proofs.Common.{arith}
use Rattle.locals.proofs.Blanks.{wider}
use Rattle.locals.proofs.frame.Locals.clear.Goals as goal

pub clear_first-requires-clause-blank : goal.clear_first-requires-clause-blank
clear_first-requires-clause-blank c = wider c.args.used 8 c.args.self.now c.if-used-le-FEW.true (omega arith) c.requires.blank
