use Rattle.std.proofs.Common.{◌≡◌, All, take, true}
use Rattle.image_search.proofs.living.are_all.Given as goal

abbrev pub invariant-loop-flag : goal.invariant-loop-flag
invariant-loop-flag l = All (λ flag. flag ≡ true) (take l.flag-index l.flags)
