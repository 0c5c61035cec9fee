-- The word of a lock, as its three parts (robust-futex ABI): the owner's number below 2^30, whether the owner died
-- with it, and whether threads may wait for it.
use Rattle.std.specs.Prelude.{ℕ, ◌+◌, ◌==◌, Bool, not, if◌then◌else◌}
use Rattle.std.specs.Int.Bits.{bit_and}

-- a lock word by its parts
abbrev pub lock_word : ℕ → Bool → Bool → ℕ
lock_word owner died waiters = owner + (if died then 1073741824 else 0) + (if waiters then 2147483648 else 0)

-- the parts of any word, as the masks take them
abbrev pub owner_of : ℕ → ℕ
owner_of w = bit_and w 1073741823

-- whether the owner died
abbrev pub died_of : ℕ → Bool
died_of w = not (bit_and w 1073741824 == 0)

-- whether there may be waiters
abbrev pub waiters_of : ℕ → Bool
waiters_of w = not (bit_and w 2147483648 == 0)
