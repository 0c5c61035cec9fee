-- The limits of a program, each by its name.
use Rattle.std.specs.Prelude.{ℕ}

-- monitors in a program
abbrev pub most_monitors : ℕ
most_monitors = 64

-- conditions of all monitors
abbrev pub most_conditions : ℕ
most_conditions = 256

-- words of the members of all monitors
abbrev pub most_member_words : ℕ
most_member_words = 1024

-- elements of an array
abbrev pub most_elements : ℕ
most_elements = 1024

-- procedures, RECOVER parts and MAIN left out
abbrev pub most_procedures : ℕ
most_procedures = 512

-- parameters of a procedure
abbrev pub most_parameters : ℕ
most_parameters = 16

-- parameters and locals together, of a procedure, a RECOVER part or MAIN
abbrev pub most_locals : ℕ
most_locals = 64

-- procedures in a chain of calls, its first one counted
abbrev pub most_in_chain : ℕ
most_in_chain = 15

-- pieces: the procedures, a RECOVER part of each monitor, and the main part
abbrev pub most_pieces : ℕ
most_pieces = 577
