use Rattle.std.proofs.Common.{All, take}
use Rattle.source_states.specs.States.{state_of}
use Rattle.source_search.specs.Found.{FailedAt}
use Rattle.source_search.proofs.ends.some_failed.Given as goal

abbrev pub invariant-loop-number : goal.invariant-loop-number
invariant-loop-number l = All (λ q. FailedAt l.outside (state_of l.state) q → ⊥) (take l.number-index l.numbers)
