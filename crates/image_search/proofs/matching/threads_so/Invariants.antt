use Rattle.std.proofs.Common.{◌<◌, suc, ℕ}
use Rattle.image_search.specs.Living.{SameAsleep, StandsOn}
use Rattle.image_search.proofs.matching.threads_so.Given as goal

abbrev pub invariant-loop-k : goal.invariant-loop-k
invariant-loop-k l = (j : ℕ) → j < l.k → SameAsleep l.machine l.packed (suc j)
    × StandsOn l.image l.parts l.machine l.packed (suc j)
