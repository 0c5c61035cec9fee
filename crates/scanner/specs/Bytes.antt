-- The classes of bytes.
use Rattle.std.specs.Prelude.{ℕ, Bool, ◌||◌, ◌&&◌, not, ◌==◌, nat_lt}

-- space, tab, line feed and carriage return
abbrev pub is_white : ℕ → Bool
is_white b = (b == 32) || ((b == 9) || ((b == 10) || (b == 13)))

-- what a comment goes on with: any byte of ASCII but a line feed
abbrev pub is_comment_byte : ℕ → Bool
is_comment_byte b = nat_lt b 128 && not (b == 10)
