-- Instructions by their names and operands.
use Rattle.std.specs.Prelude.{ℕ, List, [], ◌∷◌, Option, Some, None, option_map, nat_lt, if◌then◌else◌}
use Rattle.std.specs.Str.{bytes_eq}
use Rattle.words.specs.declared.outcome.Fault.TheVariants.{ResultOutOfRange}
use Rattle.words.specs.declared.process.ProcessWord.TheVariants.{Head}
use Rattle.isa.specs.Limits.{most_arguments}
use Rattle.isa.specs.Opcodes.{faults, process_words, row_of, slot_of}
use Rattle.isa.specs.declared.slot.Slot.TheVariants.{Local}
use Rattle.isa.specs.declared.instr.Instr.{Instr}
use Rattle.isa.specs.declared.instr.Instr.TheVariants.{Push, GetLocal, SetLocal, Pop, Operate, Negate, Not, Jump}
use Rattle.isa.specs.declared.instr.Instr.TheVariants.{JumpIfZero, Call, Ret, RetValue, Index, OwnNumber}
use Rattle.isa.specs.declared.instr.Instr.TheVariants.{ProcessAddress, Raise, Load, Store, Swap, CompareSwap, FetchOr}
use Rattle.isa.specs.declared.instr.Instr.TheVariants.{FetchAdd, Fork, Print, FutexWait, FutexWake, FutexRequeue}
use Rattle.isa.specs.declared.operator.Operator.TheVariants.{Add, Sub, Mul, Div, Mod, Eq, Ne, Lt, Le, Gt, Ge, BitAnd}
use Rattle.isa.specs.declared.operator.Operator.TheVariants.{BitOr}
use Rattle.isa.specs.Texts.{mnemonic}
use Rattle.assembler.specs.declared.table.Row.{Row}

-- the instruction of the first row with this name
abbrev pub row_named : List Row → List ℕ → Option Instr
row_named [] name = None
row_named (row ∷ rows) name = if bytes_eq row.0.now name then Some row.1 else row_named rows name

-- the first of these instructions that is shown with this name
abbrev pub first_called : List Instr → List ℕ → Option Instr
first_called [] name = None
first_called (i ∷ is) name = if bytes_eq (mnemonic i) name then Some i else first_called is name

-- an instruction of each name, with the first operands that there are
abbrev pub kinds : List Instr
kinds =
    Push 0 ∷ GetLocal (Local 0) ∷ SetLocal (Local 0) ∷ Pop ∷ Operate Add ∷ Operate Sub ∷ Operate Mul ∷ Operate Div ∷
    Operate Mod ∷ Operate Eq ∷ Operate Ne ∷ Operate Lt ∷ Operate Le ∷ Operate Gt ∷ Operate Ge ∷ Operate BitAnd ∷
    Operate BitOr ∷ Negate ∷ Not ∷ Jump 0 ∷ JumpIfZero 0 ∷ Call 0 ∷ Ret ∷ RetValue ∷ Index 0 0 ∷ OwnNumber ∷
    ProcessAddress Head ∷ Raise ResultOutOfRange ∷ Load ∷ Store ∷ Swap ∷ CompareSwap ∷ FetchOr ∷ FetchAdd ∷ Fork 0 0 ∷
    Print ∷ FutexWait ∷ FutexWake ∷ FutexRequeue ∷ []

-- the instruction of this name
unfoldable pub called : List ℕ → Option Instr
called name = first_called kinds name

-- an instruction with the first operands that there are
abbrev pub first_of : Instr → Instr
first_of (Push n) = Push 0
first_of (GetLocal slot) = GetLocal (Local 0)
first_of (SetLocal slot) = SetLocal (Local 0)
first_of (Jump place) = Jump 0
first_of (JumpIfZero place) = JumpIfZero 0
first_of (Call place) = Call 0
first_of (Index base size) = Index 0 0
first_of (ProcessAddress word) = ProcessAddress Head
first_of (Raise fault) = Raise ResultOutOfRange
first_of (Fork place arguments) = Fork 0 0
first_of i = i

-- the instruction of this kind with these operands, as many as it has, if they are within its limits
abbrev pub made_of : Instr → ℕ → ℕ → Option Instr
made_of (Push n) a b = Some (Push a)
made_of (GetLocal slot) a b = option_map (λ slot. GetLocal slot) (slot_of a)
made_of (SetLocal slot) a b = option_map (λ slot. SetLocal slot) (slot_of a)
made_of (Jump place) a b = Some (Jump a)
made_of (JumpIfZero place) a b = Some (JumpIfZero a)
made_of (Call place) a b = Some (Call a)
made_of (Index base size) a b = Some (Index a b)
made_of (ProcessAddress word) a b = option_map (λ word. ProcessAddress word) (row_of process_words a)
made_of (Raise fault) a b = option_map (λ fault. Raise fault) (row_of faults a)
made_of (Fork place arguments) a b = if nat_lt most_arguments b then None else Some (Fork a b)
made_of i a b = Some i
