-- How signs stand in a JSON string that stands in a script.
use Rattle.std.specs.Prelude.{ℕ, List, [], ◌∷◌, ◌++◌, codes, encode_utf8, nat_eq, nat_lt, if◌then◌else◌}
use Rattle.std.specs.List.{flat_map}

-- a backslash, and what stands behind it
abbrev pub escaped : List ℕ → List ℕ
escaped bytes = 92 ∷ bytes

-- what stands for a sign: so no quote in it ends the string, and no `<` the script. Of a control sign without a name of
-- its own it is told that there is one
abbrev pub json_sign : ℕ → List ℕ
json_sign sign =
    if nat_eq sign 34 then escaped (34 ∷ [])
    else if nat_eq sign 92 then escaped (92 ∷ [])
    else if nat_eq sign 10 then escaped (codes "n")
    else if nat_eq sign 13 then escaped (codes "r")
    else if nat_eq sign 9 then escaped (codes "t")
    else if nat_eq sign 60 then escaped (codes "u003c")
    else if nat_lt sign 32 then escaped (codes "ufffd")
    else encode_utf8 sign

-- a JSON string of bytes of ASCII
abbrev pub json_string : List ℕ → List ℕ
json_string bytes = 34 ∷ flat_map json_sign bytes ++ 34 ∷ []
