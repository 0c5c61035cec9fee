use Rattle.std.proofs.Common.{◌<◌, All, take}
use Rattle.image_states.proofs.turns.are_less.Given as goal

abbrev pub invariant-loop-number : goal.invariant-loop-number
invariant-loop-number l = All (λ n. n < l.count) (take l.number-index l.numbers)
