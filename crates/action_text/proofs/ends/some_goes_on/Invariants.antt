use Rattle.std.proofs.Common.{All, take}
use Rattle.source_states.specs.States.{state_of}
use Rattle.action_text.specs.Following.{GoesOn}
use Rattle.action_text.proofs.ends.some_goes_on.Given as goal

abbrev pub invariant-loop-number : goal.invariant-loop-number
invariant-loop-number l = All (λ q. GoesOn (state_of l.state) q → ⊥) (take l.number-index l.numbers)
