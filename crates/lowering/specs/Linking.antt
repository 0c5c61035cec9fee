-- The code of a piece where it is linked.
use Rattle.std.specs.Prelude.{ℕ, ◌+◌, List, [], ◌∷◌}
use Rattle.isa.specs.declared.instr.Instr.{Instr}
use Rattle.isa.specs.declared.instr.Instr.TheVariants.{Jump, JumpIfZero, Call, Fork}
use Rattle.lowering.specs.declared.mark.Marked.{Marked}

-- jumps lead to places in the piece, which begins at this place; calls and forks name pieces, which begin elsewhere
abbrev pub linked_instruction : (ℕ → ℕ) → ℕ → Instr → Instr
linked_instruction starts base (Jump p) = Jump (base + p)
linked_instruction starts base (JumpIfZero p) = JumpIfZero (base + p)
linked_instruction starts base (Call piece) = Call (starts piece)
linked_instruction starts base (Fork piece arguments) = Fork (starts piece) arguments
linked_instruction starts base i = i

-- all instructions of a piece
abbrev pub linked_code : (ℕ → ℕ) → ℕ → List Marked → List Marked
linked_code starts base [] = []
linked_code starts base (i ∷ is) =
    record { instruction = linked_instruction starts base i.instruction; mark = i.mark } ∷ linked_code starts base is
