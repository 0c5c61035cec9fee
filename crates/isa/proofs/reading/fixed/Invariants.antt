use Rattle.std.proofs.Common.{◌≡◌, drop}
use Rattle.isa.specs.Reading.{fixed_at}
use Rattle.isa.proofs.reading.fixed.Given as goal

abbrev pub invariant-loop-expected : goal.invariant-loop-expected
invariant-loop-expected l = fixed_at (drop l.expected-index l.wanted) l.fault l.rest ≡ fixed_at l.wanted l.fault l.bytes
