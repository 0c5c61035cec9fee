-- What a refusal shows.
use Rattle.std.specs.Prelude.{ℕ, List, ◌++◌, codes}
use Rattle.std.specs.Fmt.{decimal}
use Rattle.scanner.specs.Places.{start}
use Rattle.assembler.specs.declared.refusal.AssemblyRefusal.{AssemblyRefusal}
use Rattle.assembler.specs.declared.refusal.AssemblyFault.{AssemblyFault}
use Rattle.assembler.specs.declared.refusal.AssemblyFault.TheVariants.{Unknown, Twice, Number, Operands, Place, Limit}
use Rattle.assembler.specs.declared.refusal.AssemblyFault.TheVariants.{Start, Name, Memory}

-- memory has run out
abbrev pub out_of_memory : AssemblyRefusal
out_of_memory = record { fault = Memory; place = start }

-- the number that a message shows
abbrev pub number_of : AssemblyFault → ℕ
number_of Unknown = 1
number_of Twice = 2
number_of Number = 3
number_of Operands = 4
number_of Place = 5
number_of Limit = 6
number_of Start = 7
number_of Name = 8
number_of Memory = 9

-- the name that a message shows
abbrev pub name_of : AssemblyFault → List ℕ
name_of Unknown = codes "Unknown"
name_of Twice = codes "Twice"
name_of Number = codes "Number"
name_of Operands = codes "Operands"
name_of Place = codes "Place"
name_of Limit = codes "Limit"
name_of Start = codes "Start"
name_of Name = codes "Name"
name_of Memory = codes "Memory"

-- LINE:COLUMN: error N NAME
abbrev pub refusal_text : AssemblyRefusal → List ℕ
refusal_text refusal = decimal refusal.place.line ++ codes ":" ++ decimal refusal.place.column
    ++ codes ": error " ++ decimal (number_of refusal.fault) ++ codes " " ++ name_of refusal.fault
