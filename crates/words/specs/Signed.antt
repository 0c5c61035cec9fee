-- The words of signed numbers: two's complement of 32 bits.
use Rattle.std.specs.Prelude.{ℕ, ℤ}
use Rattle.std.specs.Int.{cast_signed, cast_unsigned, w32}

-- the number that a word stands for
abbrev pub signed_of : ℕ → ℤ
signed_of w = cast_signed w32 w

-- the word that stands for a number
abbrev pub word_of : ℤ → ℕ
word_of z = cast_unsigned w32 z
