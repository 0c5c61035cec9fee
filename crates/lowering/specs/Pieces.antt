-- The pieces of code, one for each procedure, and the image of a program.
use Rattle.std.specs.Prelude.{ℕ, zero, suc, ◌+◌, ◌-◌, List, [], ◌∷◌, length, map, slice_index, Option, Some, None}
use Rattle.program.specs.declared.kinds.ValueType.{ValueType}
use Rattle.program.specs.declared.kinds.Role.{Role}
use Rattle.program.specs.declared.kinds.Role.TheVariants.{Entry, Internal, Recover, External, Main}
use Rattle.program.specs.Trees.{Program, Procedure}
use Rattle.program.specs.WellFormed.{words_of}
use Rattle.isa.specs.declared.slot.Slot.TheVariants.{Local}
use Rattle.isa.specs.declared.instr.Instr.TheVariants.{Push, SetLocal}
use Rattle.isa.specs.Programs.{Program as Image}
use Rattle.lowering.specs.declared.mark.Mark.{Mark}
use Rattle.lowering.specs.declared.mark.Marked.{Marked}
use Rattle.lowering.specs.Marks.{plain, instructions, rebase_all, Code, sequence}
use Rattle.lowering.specs.Layout.{link_word}
use Rattle.lowering.specs.Locks.{enter_code}
use Rattle.lowering.specs.Statements.{Setting, recovery_of, block_code, ending_code}

-- so many arguments go from the operands into the first locals, the last one first
abbrev pub parameters_code : ℕ → List Marked
parameters_code zero = []
parameters_code (suc n) = plain (SetLocal (Local n)) ∷ parameters_code n

-- the lock is taken at the beginning of an ENTRY procedure
abbrev pub entering_code : Setting → Role → Code
entering_code c (Entry m) place = rebase_all place (enter_code m (link_word c.program m) (recovery_of c m))
entering_code c (Internal m) place = []
entering_code c (Recover m) place = []
entering_code c External place = []
entering_code c Main place = []

-- the result of a procedure whose text ends without a RETURN
abbrev pub default_code : Option ValueType → List Marked
default_code None = []
default_code (Some t) = plain (Push 0) ∷ []

-- where the statements of a procedure stand
abbrev pub setting_of : Program → (ℕ → ℕ) → Procedure → Setting
setting_of p starts q = record { program = p; starts = starts; role = q.role; result = q.result }

-- a procedure's code, where pieces begin at these places
abbrev pub piece_code : Program → (ℕ → ℕ) → Procedure → Code
piece_code p starts q start =
    let c = setting_of p starts q in
    sequence (λ _. parameters_code (length q.parameters)) (sequence (entering_code c q.role)
    (sequence (block_code c q.body) (sequence (λ _. default_code q.result) (ending_code c)))) start

-- the same before it is linked: its places count from its own beginning, and calls name pieces by their numbers
abbrev pub unlinked_code : Program → Procedure → List Marked
unlinked_code p q = piece_code p (λ piece. piece) q 0

-- where the pieces begin, one behind the other
abbrev pub starts_from : Program → ℕ → List Procedure → List ℕ
starts_from p base [] = []
starts_from p base (q ∷ qs) = base ∷ starts_from p (base + length (unlinked_code p q)) qs

-- the place at which the code of a piece begins
abbrev pub start_of : Program → ℕ → ℕ
start_of p piece = slice_index (starts_from p 0 p.procedures) piece

-- the code of procedures, one after another
abbrev pub pieces_code : Program → (ℕ → ℕ) → List Procedure → Code
pieces_code p starts [] start = []
pieces_code p starts (q ∷ qs) start = sequence (piece_code p starts q) (pieces_code p starts qs) start

-- all code of a program, with its marks
abbrev pub marked_code : Program → List Marked
marked_code p = pieces_code p (start_of p) p.procedures 0

-- the mark at each place
abbrev pub marks_of : Program → List Mark
marks_of p = map (λ i. i.mark) (marked_code p)

-- the image of a program: it begins at the main part, which is the last piece
abbrev pub code_of : Program → Image
code_of p = record {
  version = p.version;
  monitors = map (λ m. words_of m.members) p.monitors;
  start = start_of p (length p.procedures - 1);
  code = instructions (marked_code p);
}
