use Rattle.isa.proofs.NumberLoop.{IsRead}
use Rattle.isa.proofs.reading.number.Given as goal

abbrev pub invariant-loop-place : goal.invariant-loop-place
invariant-loop-place l = IsRead l.bytes l.place l.value l.weight
