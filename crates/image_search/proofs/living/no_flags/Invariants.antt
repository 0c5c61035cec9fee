use Rattle.std.proofs.Common.{◌≡◌, All, false}
use Rattle.image_search.proofs.living.no_flags.Given as goal

abbrev pub invariant-loop : goal.invariant-loop
invariant-loop l = All (λ flag. flag ≡ false) l.flags.items
