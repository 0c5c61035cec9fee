use Rattle.std.proofs.Common.{arith}
use Rattle.locals.proofs.Blanks.{wider}
use Rattle.locals.proofs.frame.Locals.copy_from.Goals as goal

pub copy_few-requires : goal.copy_few-requires
copy_few-requires c =
    let few = c.if-used-le-FEW.true in (
      wider c.args.used 8 c.args.self.now few (omega arith) c.requires.blank.0,
      wider c.args.used 8 c.args.other.now few (omega arith) c.requires.blank.1,
    )
