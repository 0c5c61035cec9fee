use Rattle.std.proofs.Common.{◌-◌, arith, length}
use Rattle.locals.proofs.Blanks.{blank_frame}
use Rattle.locals.proofs.frame.fill_last.Goals as goal

pub fill-requires-clause-blank : goal.fill-requires-clause-blank
fill-requires-clause-blank c = (
  c.requires.blank.0 (length c.args.frames.now - 1) blank_frame (omega (arith, c.requires.some)),
  c.requires.blank.1,
)
