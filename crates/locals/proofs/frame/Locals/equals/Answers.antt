use Rattle.locals.proofs.Blanks.{same_used}
use Rattle.locals.proofs.frame.Locals.equals.Goals as goal

pub returns-then-self-other : goal.returns-then-self-other
returns-then-self-other c =
    same_used c.args.used c.args.self.now c.args.other.now c.requires.blank.0 c.requires.blank.1 c.if-self-other.true
    c.has_used.result c.has_used.ensures
