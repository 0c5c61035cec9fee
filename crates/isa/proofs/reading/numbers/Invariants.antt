use Rattle.std.proofs.Common.{◌≡◌, ◌-◌}
use Rattle.isa.specs.Reading.{numbers_at}
use Rattle.isa.proofs.Loops.{with_front}
use Rattle.isa.proofs.reading.numbers.Given as goal

abbrev pub invariant-loop : goal.invariant-loop
invariant-loop l = with_front l.values.items (numbers_at (l.count - l.counter) l.left l.rest) ≡ numbers_at l.count
    l.limit l.bytes
