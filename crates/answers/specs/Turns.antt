-- Which turns the text of a schedule has.
use Rattle.std.specs.Prelude.{ℕ, ◌+◌, ◌-◌, ◌*◌, Bool, List, [], ◌∷◌, Option, Some, None, ◌==◌, ◌||◌, ◌&&◌, if◌then◌else◌}
use Rattle.std.specs.Prelude.{nat_lt, length, map, filter}
use Rattle.std.specs.List.{slice_split}
use Rattle.runner.specs.declared.schedule.Turn.{Turn}
use Rattle.runner.specs.declared.schedule.Turn.TheVariants.{Step, Stray, Kill}

-- space, tab, line feed and carriage return
abbrev pub is_white_space : ℕ → Bool
is_white_space b = (b == 32) || (b == 9) || (b == 10) || (b == 13)

-- the number with this decimal digit behind its own; none where it is no digit, or where that has more than 32 bits
abbrev pub digit_behind : ℕ → ℕ → Option ℕ
digit_behind n d =
    if nat_lt 47 d && (nat_lt d 58 && nat_lt (n * 10 + (d - 48)) 4294967296) then Some (n * 10 + (d - 48)) else None

-- the number that decimal digits write behind those of another; 0 where they write none of 32 bits
abbrev pub number_from : Option ℕ → List ℕ → ℕ
number_from None digits = 0
number_from (Some n) [] = n
number_from (Some n) (d ∷ digits) = number_from (digit_behind n d) digits

-- the turn of a word: the number of a thread that takes a step, or behind an `s` of one that is woken from outside, or
-- behind a `k` of one that is killed
abbrev pub turn_of : List ℕ → Turn
turn_of [] = Step 0
turn_of (b ∷ digits) =
    if b == 115 then Stray (number_from (Some 0) digits)
    else (if b == 107 then Kill (number_from (Some 0) digits) else Step (number_from (Some 0) (b ∷ digits)))

-- the turns of a text: one for each of its words, which white space parts
abbrev pub turns_in : List ℕ → List Turn
turns_in text = map turn_of (filter (λ word. nat_lt 0 (length word)) (slice_split is_white_space text))
