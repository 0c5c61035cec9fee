-- Instructions with their marks, and lists of them that stand at a place.
use Rattle.std.specs.Prelude.{ℕ, ◌+◌, List, [], ◌∷◌, ◌++◌, length, map}
use Rattle.isa.specs.declared.instr.Instr.{Instr}
use Rattle.isa.specs.declared.instr.Instr.TheVariants.{Jump, JumpIfZero}
use Rattle.lowering.specs.declared.mark.Mark.{Mark}
use Rattle.lowering.specs.declared.mark.Mark.TheVariants.{Plain}
use Rattle.lowering.specs.declared.mark.Marked.{Marked}

-- an instruction at which an action of this kind is completed
abbrev pub with_mark : Mark → Instr → Marked
with_mark m i = record { instruction = i; mark = m }

-- no action stands there
abbrev pub plain : Instr → Marked
plain i = with_mark Plain i

-- instructions at which no action is completed
abbrev pub plainly : List Instr → List Marked
plainly [] = []
plainly (i ∷ is) = plain i ∷ plainly is

-- without its marks
abbrev pub instructions : List Marked → List Instr
instructions is = map (λ i. i.instruction) is

-- a jump within a list that begins at this place; calls and forks name places elsewhere
abbrev pub rebase : ℕ → Instr → Instr
rebase base (Jump p) = Jump (base + p)
rebase base (JumpIfZero p) = JumpIfZero (base + p)
rebase base i = i

-- a list whose places count from its own beginning, at a place
abbrev pub rebase_all : ℕ → List Marked → List Marked
rebase_all base [] = []
rebase_all base (i ∷ is) = record { instruction = rebase base i.instruction; mark = i.mark } ∷ rebase_all base is

-- what code stands at each place
abbrev pub Code : Type 0
Code = ℕ → List Marked

-- one behind the other
abbrev pub sequence : Code → Code → Code
sequence f g place = f place ++ g (place + length (f place))
