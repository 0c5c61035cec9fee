use Rattle.std.proofs.Common.{ℕ, ap}
use Rattle.rand_core.specs.Stream.{Stream}
use Rattle.runner.specs.Seeds.{numbers_from}
use Rattle.runner.proofs.drawing.next_number.Goals as goal

pub returns-clause-number : goal.returns-clause-number
unfolding numbers_from
returns-clause-number c = ap (λ (q : ℕ × Stream). q.0) c.next_u64.ensures

pub returns-clause-rest : goal.returns-clause-rest
unfolding numbers_from
returns-clause-rest c = ap (λ (q : ℕ × Stream). q.1) c.next_u64.ensures
