use Rattle.std.proofs.Common.{◌≡◌, ℕ, ◌++◌, ◌<◌}
use Rattle.isa.specs.Numbers.{groups, number}
use Rattle.isa.proofs.NumberLaws.{reach}
use Rattle.isa.proofs.writing.put_number.Given as goal

abbrev pub invariant-loop-rest : goal.invariant-loop-rest
invariant-loop-rest l = (more : ℕ) × (l.rest < reach more) × (l.out.items ++ groups more l.rest ≡ l.fn.out.items ++
    number l.value)

abbrev pub decreases-loop-rest : goal.decreases-loop-rest
decreases-loop-rest l = l.rest
