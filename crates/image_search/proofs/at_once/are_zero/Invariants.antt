use Rattle.std.proofs.Common.{◌≡◌, All, take}
use Rattle.image_search.proofs.at_once.are_zero.Given as goal

abbrev pub invariant-loop-number : goal.invariant-loop-number
invariant-loop-number l = All (λ n. n ≡ 0) (take l.number-index l.numbers)
