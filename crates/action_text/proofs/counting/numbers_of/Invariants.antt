use Rattle.std.proofs.Common.{◌≡◌, ℕ, List, ◌++◌, length}
use Rattle.std.specs.List.{All}
use Rattle.log_text.specs.Cuts.{NoNumber}
use Rattle.action_text.specs.ActionText.{numbers_text}
use Rattle.action_text.specs.Sized.{IsNumber}
use Rattle.action_text.proofs.Numbers.{Behind}
use Rattle.action_text.proofs.counting.numbers_of.Given as goal

abbrev pub invariant-numbers : goal.invariant-numbers
invariant-numbers l = record {
  whole : l.text ≡ numbers_text l.numbers.items ++ l.rest;
  small : All IsNumber l.numbers.items;
  behind : (ns rest : List ℕ) → All IsNumber ns → NoNumber rest → l.text ≡ numbers_text ns ++ rest
      → Behind l.numbers.items l.rest ns rest;
}

abbrev pub decreases-numbers : goal.decreases-numbers
decreases-numbers l = length l.rest
