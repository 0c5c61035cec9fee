-- The members of the monitors before one, and its own, are no more than all members.
use Rattle.std.proofs.Common.{ℕ, ◌+◌, ◌<◌, ◌≤◌, List, length, take, sum, get_or}
use Rattle.std.proofs.lemmas.List.Sums.{sum_by_more_le}

pub member_within : (xs : List ℕ) (m : ℕ) → m < length xs → sum (take m xs) + get_or xs m 0 ≤ sum xs
member_within xs m h = sum_by_more_le (λ x. x) xs m 0 h
