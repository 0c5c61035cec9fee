-- The lines of instructions.
use Rattle.std.specs.Prelude.{ℕ, ◌+◌, ◌/◌, ◌%◌, List, [], ◌∷◌, ◌++◌, codes}
use Rattle.std.specs.Fmt.{decimal}
use Rattle.isa.specs.declared.instr.Instr.{Instr}
use Rattle.isa.specs.Texts.{instruction_text}

-- a place below 100,000 in five digits
abbrev pub place_text : ℕ → List ℕ
place_text n = decimal (n / 10000) ++ decimal (n / 1000 % 10) ++ decimal (n / 100 % 10) ++ decimal
    (n / 10 % 10) ++ decimal (n % 10)

-- the line of the instruction at a place
abbrev pub line : ℕ → Instr → List ℕ
line place i = place_text place ++ codes " " ++ instruction_text i ++ codes "\n"

-- of instructions from a place on
abbrev pub lines : ℕ → List Instr → List ℕ
lines place [] = []
lines place (i ∷ is) = line place i ++ lines (place + 1) is
