-- The one spelling of a number to 4294967295: seven bits to a byte, the lowest first, in as few bytes as do; 128 is
-- added to each byte but the last.
use Rattle.std.specs.Prelude.{ℕ, zero, suc, ◌+◌, ◌/◌, ◌%◌, List, [], ◌∷◌, nat_lt, if◌then◌else◌}

-- with at most so many bytes before the last
unfoldable pub groups : ℕ → ℕ → List ℕ
groups zero n = n ∷ []
groups (suc more) n = if nat_lt n 128 then n ∷ [] else (n % 128 + 128) ∷ groups more (n / 128)

-- five bytes at most
abbrev pub number : ℕ → List ℕ
number n = groups 4 n
