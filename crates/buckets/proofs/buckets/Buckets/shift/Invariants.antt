use Rattle.buckets.proofs.Moves.{Moved}
use Rattle.buckets.proofs.buckets.Buckets.shift.Given as goal

abbrev pub invariant-loop-t : goal.invariant-loop-t
invariant-loop-t l = Moved l.initial.self l.self l.t-items l.b.0 l.t-index
