-- The bytes of an image: its one spelling.
use Rattle.std.specs.Prelude.{ℕ, ◌<◌, ◌^◌, List, [], ◌∷◌, ◌++◌, length}
use Rattle.std.specs.List.{flat_map, AllByRecursion}
use Rattle.words.specs.declared.version.ImageVersion.{ImageVersion}
use Rattle.words.specs.declared.version.ImageVersion.TheVariants.{One, Two, Linux}
use Rattle.isa.specs.declared.instr.Instr.{Instr}
use Rattle.isa.specs.Numbers.{number}
use Rattle.isa.specs.Instructions.{operands}
use Rattle.isa.specs.Opcodes.{opcode}
use Rattle.isa.specs.Programs.{Program, IsProgram}

-- the four bytes that each image begins with
abbrev pub magic : List ℕ
magic = 0x4d ∷ 0x46 ∷ 0x55 ∷ 0x54 ∷ []

-- a version that has a byte of its own
abbrev pub HasByte : ImageVersion → Type 0
HasByte One = Unit {0}
HasByte Two = Unit {0}
HasByte Linux = ⊥

-- the byte of a version; an image of the layout without one is written as one of version two
abbrev pub version : ImageVersion → List ℕ
version One = 0x01 ∷ []
version Two = 0x02 ∷ []
version Linux = 0x02 ∷ []

-- numbers, one after another
abbrev pub numbers : List ℕ → List ℕ
numbers ns = flat_map number ns

-- an opcode byte, and each operand as a number
abbrev pub instruction : Instr → List ℕ
instruction i = opcode i ∷ numbers (operands i)

-- instructions, one after another
abbrev pub instructions : List Instr → List ℕ
instructions is = flat_map instruction is

-- how many monitors, and the member words of each
abbrev pub monitor_table : List ℕ → List ℕ
monitor_table monitors = number (length monitors) ++ numbers monitors

-- how many instructions, and these
abbrev pub code_table : List Instr → List ℕ
code_table code = number (length code) ++ instructions code

-- the bytes of an image
abbrev pub spelling : Program → List ℕ
spelling p = magic ++ version p.version ++ monitor_table p.monitors ++ number p.start ++ code_table p.code

-- a word is below 2 ^ 32
abbrev pub AreWords : List ℕ → Type 0
AreWords ns = AllByRecursion (λ n. n < 2 ^ 32) ns

-- what has a spelling: a program within the limits, each operand of which is a word
pub record IsSpelled (p : Program) : Type 0 where
  pub within : IsProgram p
  pub words : AllByRecursion (λ i. AreWords (operands i)) p.code
