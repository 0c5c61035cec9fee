-- Reading an image from left to right, with the first fault that is met. A field is a value and the bytes after it.
use Rattle.std.specs.Prelude.{◌≡◌, ◌≢◌, ℕ, zero, suc, ◌+◌, ◌-◌, ◌*◌, List, [], ◌∷◌, length, Option, Some, None}
use Rattle.std.specs.Prelude.{Result, Ok, Err, Bool, true, false, nat_lt, ◌==◌, if◌then◌else◌}
use Rattle.words.specs.declared.version.ImageVersion.{ImageVersion}
use Rattle.words.specs.declared.version.ImageVersion.TheVariants.{One, Two}
use Rattle.isa.specs.declared.fault.DecodeFault.{DecodeFault}
use Rattle.isa.specs.declared.fault.DecodeFault.TheVariants.{BadMagic, Version, Short, BadInstr, BadTarget, Trailing}
use Rattle.isa.specs.declared.fault.DecodeFault.TheVariants.{Limit, Memory}
use Rattle.isa.specs.declared.instr.Instr.{Instr}
use Rattle.isa.specs.Instructions.{target}
use Rattle.isa.specs.Limits.{most_monitors, most_member_words, most_instructions}
use Rattle.isa.specs.Opcodes.{Form, with_one, with_two, plain_opcodes, operand_opcodes, row_of}
use Rattle.isa.specs.Programs.{Program}
use Rattle.isa.specs.Spelling.{magic}

infixl 10 ◌>>=◌
-- reads on, unless a fault was met
abbrev pub ◌>>=◌ : {A B : Type 0} → Result A DecodeFault → (A → Result B DecodeFault) → Result B DecodeFault
(Ok x) >>= f = f x
(Err e) >>= f = Err e

-- What a function returned, seen by view, is what reading gives, unless memory ran out.
abbrev pub Gives : {X Y : Type 0} → (X → Y) → Result X DecodeFault → Result Y DecodeFault → Type 0
Gives view (Ok x) read = read ≡ Ok (view x)
Gives view (Err e) read = e ≢ Memory → read ≡ Err e

-- these bytes and no others
unfoldable pub fixed_at : List ℕ → DecodeFault → List ℕ → Result (List ℕ) DecodeFault
fixed_at [] fault bytes = Ok bytes
fixed_at (b ∷ wanted) fault [] = Err Short
fixed_at (b ∷ wanted) fault (c ∷ rest) = if c == b then fixed_at wanted fault rest else Err fault

-- the version, which is a byte
unfoldable pub version_at : List ℕ → Result (ImageVersion × List ℕ) DecodeFault
version_at [] = Err Short
version_at (b ∷ rest) = if b == 0x01 then Ok (One, rest) else if b == 0x02 then Ok (Two, rest) else Err Version

-- a number with at most so many bytes before its last: there a byte past 0f is past 4294967295, and a last byte of 00
-- means that fewer bytes would do
unfoldable pub groups_at : ℕ → List ℕ → Result (ℕ × List ℕ) DecodeFault
groups_at more [] = Err Short
groups_at zero (b ∷ rest) = if nat_lt 15 b then Err Limit else Ok (b, rest)
groups_at (suc more) (b ∷ rest) = if nat_lt b 128 then Ok (b, rest) else do
  high ← groups_at more rest
  if high.0 == 0 then Err BadInstr else Ok (b - 128 + 128 * high.0, high.1)

-- a number, in at most five bytes
abbrev pub number_at : List ℕ → Result (ℕ × List ℕ) DecodeFault
number_at bytes = groups_at 4 bytes

-- a number up to a limit, which is tested once the number is read
unfoldable pub limited_at : ℕ → List ℕ → Result (ℕ × List ℕ) DecodeFault
limited_at limit bytes = do
  n ← number_at bytes
  if nat_lt limit n.0 then Err Limit else Ok n

-- so many numbers, whose sum is up to a limit
unfoldable pub numbers_at : ℕ → ℕ → List ℕ → Result (List ℕ × List ℕ) DecodeFault
numbers_at zero limit bytes = Ok ([], bytes)
numbers_at (suc count) limit bytes = do
  first ← limited_at limit bytes
  others ← numbers_at count (limit - first.0) first.1
  Ok (first.0 ∷ others.0, others.1)

-- how many monitors, and the member words of each
unfoldable pub monitors_at : List ℕ → Result (List ℕ × List ℕ) DecodeFault
monitors_at bytes = do
  count ← limited_at most_monitors bytes
  numbers_at count.0 most_member_words count.1

-- an instruction, if its operands are within their limits
abbrev pub made_at : Option Instr → List ℕ → Result (Instr × List ℕ) DecodeFault
made_at None bytes = Err Limit
made_at (Some i) bytes = Ok (i, bytes)

-- an instruction by its form, behind its opcode
unfoldable pub operands_at : Option Form → List ℕ → Result (Instr × List ℕ) DecodeFault
operands_at None bytes = Err BadInstr
operands_at (Some (with_one make)) bytes = do
  n ← number_at bytes
  made_at (make n.0) n.1
operands_at (Some (with_two make)) bytes = do
  n ← number_at bytes
  m ← number_at n.1
  made_at (make n.0 m.0) m.1

-- an instruction without operands, else what stands behind the opcode
unfoldable pub behind_opcode : Option Instr → Option Form → List ℕ → Result (Instr × List ℕ) DecodeFault
behind_opcode (Some i) form bytes = Ok (i, bytes)
behind_opcode None form bytes = operands_at form bytes

-- one instruction
unfoldable pub instruction_at : List ℕ → Result (Instr × List ℕ) DecodeFault
instruction_at [] = Err Short
instruction_at (b ∷ rest) = behind_opcode (row_of plain_opcodes b) (row_of operand_opcodes b) rest

-- so many instructions
unfoldable pub instructions_at : ℕ → List ℕ → Result (List Instr × List ℕ) DecodeFault
instructions_at zero bytes = Ok ([], bytes)
instructions_at (suc count) bytes = do
  first ← instruction_at bytes
  others ← instructions_at count first.1
  Ok (first.0 ∷ others.0, others.1)

-- how many instructions, and these
unfoldable pub code_at : List ℕ → Result (List Instr × List ℕ) DecodeFault
code_at bytes = do
  count ← limited_at most_instructions bytes
  instructions_at count.0 count.1

-- an image, whatever follows it
unfoldable pub image_at : List ℕ → Result (Program × List ℕ) DecodeFault
image_at bytes = do
  marked ← fixed_at magic BadMagic bytes
  versioned ← version_at marked
  monitors ← monitors_at versioned.1
  start ← number_at monitors.1
  code ← code_at start.1
  Ok (record { version = versioned.0; monitors = monitors.0; start = start.0; code = code.0 }, code.1)

-- whether a place that an instruction names, if any, is one of so many; and whether all of them are
abbrev pub leads_below : ℕ → Option ℕ → Bool
leads_below count None = true
leads_below count (Some place) = nat_lt place count

-- whether the targets of all instructions are below the number of instructions
abbrev pub lead_below : ℕ → List Instr → Bool
lead_below count [] = true
lead_below count (i ∷ is) = if leads_below count (target i) then lead_below count is else false

-- whether the start and all places that are named lie in the code
abbrev pub stays_inside : Program → Bool
stays_inside p = if nat_lt p.start (length p.code) then lead_below (length p.code) p.code else false

-- behind the last instruction: no byte, and a start and targets in the code
abbrev pub at_end : Program → List ℕ → Result Program DecodeFault
at_end p rest = if length rest == 0 then (if stays_inside p then Ok p else Err BadTarget) else Err Trailing

-- all of the bytes
unfoldable pub program_of : List ℕ → Result Program DecodeFault
program_of bytes = do
  image ← image_at bytes
  at_end image.0 image.1
