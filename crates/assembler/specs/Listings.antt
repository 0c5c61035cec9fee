-- The lines that `list` prints of an image's instructions.
use Rattle.std.specs.Prelude.{ℕ, ◌≡◌, ◌≢◌, List, [], ◌++◌, codes}
use Rattle.std.specs.List.{flat_map}
use Rattle.std.specs.Fmt.{decimal}
use Rattle.words.specs.declared.version.ImageVersion.TheVariants.{Two}
use Rattle.isa.specs.Instructions.{IsInstruction, operands}
use Rattle.isa.specs.declared.instr.Instr.{Instr}
use Rattle.isa.specs.Lines.{lines}
use Rattle.isa.specs.Programs.{Program}
use Rattle.isa.specs.Spelling.{AreWords, HasByte, IsSpelled}
use Rattle.assembler.specs.declared.refusal.AssemblyRefusal.{AssemblyRefusal}
use Rattle.assembler.specs.declared.refusal.AssemblyFault.TheVariants.{Memory}

-- each number behind a space
abbrev pub spaced : List ℕ → List ℕ
spaced ns = flat_map (λ n. codes " " ++ decimal n) ns

-- an instruction within its limits, each operand of which is a word
abbrev pub IsShown : Instr → Type 0
IsShown i = IsInstruction i × AreWords (operands i)

-- these instructions alone: of the second version, without monitors, from the first one on
abbrev pub plain : List Instr → Program
plain code = record { version = Two; monitors = []; start = 0; code = code }

-- the text is just the lines of these instructions, which an image can have
abbrev pub IsListing : List ℕ → List Instr → Type 0
IsListing text code = (text ≡ lines 0 code) × IsSpelled (plain code)

-- an image that bytes can spell
abbrev pub IsEncoded : Program → Type 0
IsEncoded p = HasByte p.version × IsSpelled p

-- an image of the text, which bytes can spell: where the text is just the lines of instructions which an image can have, it has
-- these alone
pub record IsAssembled (text : List ℕ) (p : Program) : Type 0 where
  pub encoded : IsEncoded p
  pub listing : (code : List Instr) → IsListing text code → p ≡ plain code

-- the text is refused so: it is no such lines, but where memory has run out
abbrev pub RefusesText : List ℕ → AssemblyRefusal → Type 0
RefusesText text e = e.fault ≢ Memory → (code : List Instr) → IsListing text code → ⊥
