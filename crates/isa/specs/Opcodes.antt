-- The opcodes, and what is read behind each.
use Rattle.std.specs.Prelude.{ℕ, List, [], ◌∷◌, Option, Some, None, option_map, ◌==◌, nat_lt, if◌then◌else◌}
use Rattle.words.specs.declared.outcome.Fault.{Fault}
use Rattle.words.specs.declared.outcome.Fault.TheVariants.{ResultOutOfRange, DivisionByZero, IndexOutOfRange}
use Rattle.words.specs.declared.outcome.Fault.TheVariants.{HandleNotJoinable, ProcessTableFull, AbortStatement}
use Rattle.words.specs.declared.outcome.Fault.TheVariants.{AbandonedMonitor, JoinedAborted}
use Rattle.words.specs.declared.process.ProcessWord.{ProcessWord}
use Rattle.words.specs.declared.process.ProcessWord.TheVariants.{Head, Pending, Id, Claim, Result, Outcome}
use Rattle.isa.specs.Limits.{most_locals, most_arguments}
use Rattle.isa.specs.declared.slot.Slot.{Slot}
use Rattle.isa.specs.declared.slot.Slot.TheVariants.{Local, Template}
use Rattle.isa.specs.declared.operator.Operator.{Operator}
use Rattle.isa.specs.declared.operator.Operator.TheVariants.{Add, Sub, Mul, Div, Mod, Eq, Ne, Lt, Le, Gt, Ge, BitAnd}
use Rattle.isa.specs.declared.operator.Operator.TheVariants.{BitOr}
use Rattle.isa.specs.declared.instr.Instr.{Instr}
use Rattle.isa.specs.declared.instr.Instr.TheVariants.{Push, GetLocal, SetLocal, Pop, Operate, Negate, Not, Jump}
use Rattle.isa.specs.declared.instr.Instr.TheVariants.{JumpIfZero, Call, Ret, RetValue, Index, OwnNumber}
use Rattle.isa.specs.declared.instr.Instr.TheVariants.{ProcessAddress, Raise, Load, Store, Swap, CompareSwap, FetchOr}
use Rattle.isa.specs.declared.instr.Instr.TheVariants.{FetchAdd, Fork, Print, FutexWait, FutexWake, FutexRequeue}

-- the first row of a table for this number
abbrev pub row_of : {A : Type 0} → List (ℕ × A) → ℕ → Option A
row_of [] n = None
row_of (row ∷ rows) n = if n == row.0 then Some row.1 else row_of rows n

-- the words of a process by their numbers
abbrev pub process_words : List (ℕ × ProcessWord)
process_words =
    (0, Head) ∷ (1, Pending) ∷ (2, Id) ∷ (3, Claim) ∷ (4, Result) ∷ (5, Outcome) ∷ []

-- the faults by their numbers
abbrev pub faults : List (ℕ × Fault)
faults =
    (1, ResultOutOfRange) ∷ (2, DivisionByZero) ∷ (3, IndexOutOfRange) ∷ (4, HandleNotJoinable) ∷
    (5, ProcessTableFull) ∷ (6, AbortStatement) ∷ (7, AbandonedMonitor) ∷ (8, JoinedAborted) ∷ []

-- the local with a number
abbrev pub slot_of : ℕ → Option Slot
slot_of n = if nat_lt n most_locals then Some (Local n) else if n == most_locals then Some Template else None

-- the instructions without operands
abbrev pub plain_opcodes : List (ℕ × Instr)
plain_opcodes =
    (0x04, Pop) ∷
    (0x05, Operate Add) ∷
    (0x06, Operate Sub) ∷
    (0x07, Operate Mul) ∷
    (0x08, Operate Div) ∷
    (0x09, Operate Mod) ∷
    (0x0a, Negate) ∷
    (0x0b, Operate Eq) ∷
    (0x0c, Operate Ne) ∷
    (0x0d, Operate Lt) ∷
    (0x0e, Operate Le) ∷
    (0x0f, Operate Gt) ∷
    (0x10, Operate Ge) ∷
    (0x11, Operate BitAnd) ∷
    (0x12, Operate BitOr) ∷
    (0x13, Not) ∷
    (0x17, Ret) ∷
    (0x18, RetValue) ∷
    (0x1a, OwnNumber) ∷
    (0x20, Load) ∷
    (0x21, Store) ∷
    (0x22, Swap) ∷
    (0x23, CompareSwap) ∷
    (0x24, FetchOr) ∷
    (0x25, FetchAdd) ∷
    (0x27, Print) ∷
    (0x28, FutexWait) ∷
    (0x29, FutexWake) ∷
    (0x2a, FutexRequeue) ∷ []

-- the instruction that one operand or two make, where they are within their limits
pub data Form : Type 0 where
  with_one : (ℕ → Option Instr) → Form
  with_two : (ℕ → ℕ → Option Instr) → Form

-- the instructions that name a place
abbrev pub place_opcodes : List (ℕ × Form)
place_opcodes =
    (0x14, with_one (λ place. Some (Jump place))) ∷
    (0x15, with_one (λ place. Some (JumpIfZero place))) ∷
    (0x16, with_one (λ place. Some (Call place))) ∷
    (0x26, with_two (λ place n. if nat_lt most_arguments n then None else Some (Fork place n))) ∷ []

-- the instructions with operands
abbrev pub operand_opcodes : List (ℕ × Form)
operand_opcodes =
    (0x01, with_one (λ n. Some (Push n))) ∷
    (0x02, with_one (λ n. option_map (λ slot. GetLocal slot) (slot_of n))) ∷
    (0x03, with_one (λ n. option_map (λ slot. SetLocal slot) (slot_of n))) ∷
    (0x19, with_two (λ base size. Some (Index base size))) ∷
    (0x1b, with_one (λ k. option_map (λ word. ProcessAddress word) (row_of process_words k))) ∷
    (0x1c, with_one (λ k. option_map (λ fault. Raise fault) (row_of faults k))) ∷
    place_opcodes

-- the same tables, read from an instruction
abbrev pub operator_opcode : Operator → ℕ
operator_opcode Add = 0x05
operator_opcode Sub = 0x06
operator_opcode Mul = 0x07
operator_opcode Div = 0x08
operator_opcode Mod = 0x09
operator_opcode Eq = 0x0b
operator_opcode Ne = 0x0c
operator_opcode Lt = 0x0d
operator_opcode Le = 0x0e
operator_opcode Gt = 0x0f
operator_opcode Ge = 0x10
operator_opcode BitAnd = 0x11
operator_opcode BitOr = 0x12

-- the opcode of an instruction
abbrev pub opcode : Instr → ℕ
opcode (Push n) = 0x01
opcode (GetLocal slot) = 0x02
opcode (SetLocal slot) = 0x03
opcode Pop = 0x04
opcode (Operate operator) = operator_opcode operator
opcode Negate = 0x0a
opcode Not = 0x13
opcode (Jump place) = 0x14
opcode (JumpIfZero place) = 0x15
opcode (Call place) = 0x16
opcode Ret = 0x17
opcode RetValue = 0x18
opcode (Index base size) = 0x19
opcode OwnNumber = 0x1a
opcode (ProcessAddress word) = 0x1b
opcode (Raise fault) = 0x1c
opcode Load = 0x20
opcode Store = 0x21
opcode Swap = 0x22
opcode CompareSwap = 0x23
opcode FetchOr = 0x24
opcode FetchAdd = 0x25
opcode (Fork place arguments) = 0x26
opcode Print = 0x27
opcode FutexWait = 0x28
opcode FutexWake = 0x29
opcode FutexRequeue = 0x2a
