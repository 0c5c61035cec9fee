use Rattle.buckets.proofs.Takes.{Left}
use Rattle.buckets.proofs.buckets.Buckets.take_some.Given as goal

abbrev pub invariant-loop-t : goal.invariant-loop-t
invariant-loop-t l = Left l.initial.self l.self l.t-items l.fn.a.0 l.t-index
