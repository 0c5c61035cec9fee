-- The texts that shapes are written as.
use Rattle.std.specs.Prelude.{Bool, ℕ, List, [], ◌∷◌, ◌&&◌, ◌||◌, codes, encode_utf8, nat_eq, nat_le, if◌then◌else◌}

-- what XML has for a byte that begins or ends a tag or an entity; each other byte of ASCII stands for itself
abbrev pub escape : ℕ → List ℕ
escape byte =
    if nat_eq byte 60 then codes "&lt;"
    else if nat_eq byte 62 then codes "&gt;"
    else if nat_eq byte 38 then codes "&amp;"
    else encode_utf8 byte

-- whether XML may have a sign
abbrev pub is_allowed_sign : ℕ → Bool
is_allowed_sign sign = nat_le 32 sign && nat_le sign 65533 || nat_le 65536 sign

-- the same of a sign, and a question mark for one that XML may not have
abbrev pub shown_sign : ℕ → List ℕ
shown_sign sign =
    if nat_eq sign 60 then codes "&lt;"
    else if nat_eq sign 62 then codes "&gt;"
    else if nat_eq sign 38 then codes "&amp;"
    else if is_allowed_sign sign then encode_utf8 sign
    else 63 ∷ []
