use Rattle.std.proofs.Common.{vec_len}
use Rattle.refusal_hints.proofs.walk.pass.Given as goal

abbrev pub decreases-loop-symbol : goal.decreases-loop-symbol
decreases-loop-symbol l = vec_len l.stack
