use Rattle.std.proofs.Common.{◌≡◌, ◌-◌}
use Rattle.isa.specs.Reading.{instructions_at}
use Rattle.isa.proofs.Loops.{with_front}
use Rattle.isa.proofs.reading.instructions.Given as goal

abbrev pub invariant-loop : goal.invariant-loop
invariant-loop l = with_front l.code.items (instructions_at (l.count - l.counter) l.rest) ≡ instructions_at l.count
    l.bytes
