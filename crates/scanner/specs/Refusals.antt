-- What a refusal shows.
use Rattle.std.specs.Prelude.{ℕ, List, ◌++◌, codes}
use Rattle.std.specs.Fmt.{decimal}
use Rattle.scanner.specs.declared.refusal.Refusal.{Refusal}
use Rattle.scanner.specs.declared.refusal.RefusalKind.{RefusalKind}
use Rattle.scanner.specs.declared.refusal.RefusalKind.TheVariants.{NotAscii, BadToken, Expected, Redeclared, Unknown}
use Rattle.scanner.specs.declared.refusal.RefusalKind.TheVariants.{TypeMismatch, WrongPlace, DirectReentry, Recursion}
use Rattle.scanner.specs.declared.refusal.RefusalKind.TheVariants.{Limit, Memory, StrayPiece}
use Rattle.scanner.specs.Places.{start}

-- memory has run out
abbrev pub out_of_memory : Refusal
out_of_memory = record { kind = Memory; place = start }

-- the number that a message shows
abbrev pub number_of : RefusalKind → ℕ
number_of NotAscii = 1
number_of BadToken = 2
number_of Expected = 3
number_of Redeclared = 4
number_of Unknown = 5
number_of TypeMismatch = 6
number_of WrongPlace = 7
number_of DirectReentry = 8
number_of Recursion = 9
number_of Limit = 10
number_of Memory = 11
number_of StrayPiece = 12

-- the name that a message shows
abbrev pub name_of : RefusalKind → List ℕ
name_of NotAscii = codes "NotAscii"
name_of BadToken = codes "BadToken"
name_of Expected = codes "Expected"
name_of Redeclared = codes "Redeclared"
name_of Unknown = codes "Unknown"
name_of TypeMismatch = codes "TypeMismatch"
name_of WrongPlace = codes "WrongPlace"
name_of DirectReentry = codes "DirectReentry"
name_of Recursion = codes "Recursion"
name_of Limit = codes "Limit"
name_of Memory = codes "Memory"
name_of StrayPiece = codes "StrayPiece"

-- LINE:COLUMN: error N NAME
abbrev pub refusal_text : Refusal → List ℕ
refusal_text refusal = decimal refusal.place.line ++ codes ":" ++ decimal refusal.place.column
    ++ codes ": error " ++ decimal (number_of refusal.kind) ++ codes " " ++ name_of refusal.kind
