-- Each instruction is the one of its name's row with its operands.
use Rattle.std.proofs.Common.{◌≡◌, ◌≤◌, ℕ, Option, Some, length}
use Rattle.std.proofs.Common.{◌∙◌, get_or, lt-ltb, le-ltb, refl, arith}
use Rattle.words.specs.Outcomes.{fault_number}
use Rattle.words.specs.Process.{number_of}
use Rattle.words.specs.declared.outcome.Fault.{Fault}
use Rattle.words.specs.declared.outcome.Fault.TheVariants.{ResultOutOfRange, DivisionByZero, IndexOutOfRange}
use Rattle.words.specs.declared.outcome.Fault.TheVariants.{HandleNotJoinable, ProcessTableFull, AbortStatement}
use Rattle.words.specs.declared.outcome.Fault.TheVariants.{AbandonedMonitor, JoinedAborted}
use Rattle.words.specs.declared.process.ProcessWord.{ProcessWord}
use Rattle.words.specs.declared.process.ProcessWord.TheVariants.{Head, Pending, Id, Claim, Result, Outcome}
use Rattle.isa.specs.Instructions.{IsInstruction, IsSlot, operands, slot_number}
use Rattle.isa.specs.Limits.{most_locals}
use Rattle.isa.specs.Opcodes.{faults, process_words, row_of, slot_of}
use Rattle.isa.specs.Texts.{mnemonic}
use Rattle.isa.specs.declared.slot.Slot.{Slot}
use Rattle.isa.specs.declared.slot.Slot.TheVariants.{Local, Template}
use Rattle.isa.specs.declared.operator.Operator.TheVariants.{Add, Sub, Mul, Div, Mod, Eq, Ne, Lt, Le, Gt, Ge, BitAnd}
use Rattle.isa.specs.declared.operator.Operator.TheVariants.{BitOr}
use Rattle.isa.specs.declared.instr.Instr.{Instr}
use Rattle.isa.specs.declared.instr.Instr.TheVariants.{Push, GetLocal, SetLocal, Pop, Operate, Negate, Not, Jump}
use Rattle.isa.specs.declared.instr.Instr.TheVariants.{JumpIfZero, Call, Ret, RetValue, Index, OwnNumber}
use Rattle.isa.specs.declared.instr.Instr.TheVariants.{ProcessAddress, Raise, Load, Store, Swap, CompareSwap, FetchOr}
use Rattle.isa.specs.declared.instr.Instr.TheVariants.{FetchAdd, Fork, Print, FutexWait, FutexWake, FutexRequeue}
use Rattle.assembler.specs.Named.{called, first_of, made_of}

-- the row of its name
pub row_again : (i : Instr) → called (mnemonic i) ≡ Some (first_of i)
unfolding called
row_again (Push n) = refl
row_again (GetLocal slot) = refl
row_again (SetLocal slot) = refl
row_again (Jump place) = refl
row_again (JumpIfZero place) = refl
row_again (Call place) = refl
row_again (Index base size) = refl
row_again (ProcessAddress word) = refl
row_again (Raise fault) = refl
row_again (Fork place arguments) = refl
row_again Pop = refl
row_again Negate = refl
row_again Not = refl
row_again Ret = refl
row_again RetValue = refl
row_again OwnNumber = refl
row_again Load = refl
row_again Store = refl
row_again Swap = refl
row_again CompareSwap = refl
row_again FetchOr = refl
row_again FetchAdd = refl
row_again Print = refl
row_again FutexWait = refl
row_again FutexWake = refl
row_again FutexRequeue = refl
row_again (Operate Add) = refl
row_again (Operate Sub) = refl
row_again (Operate Mul) = refl
row_again (Operate Div) = refl
row_again (Operate Mod) = refl
row_again (Operate Eq) = refl
row_again (Operate Ne) = refl
row_again (Operate Lt) = refl
row_again (Operate Le) = refl
row_again (Operate Gt) = refl
row_again (Operate Ge) = refl
row_again (Operate BitAnd) = refl
row_again (Operate BitOr) = refl

slot_again : (s : Slot) → IsSlot s → slot_of (slot_number s) ≡ Some s
slot_again (Local n) lt = rw (lt-ltb n most_locals lt) refl
slot_again Template is = refl

word_again : (w : ProcessWord) → row_of process_words (number_of w) ≡ Some w
word_again Head = refl
word_again Pending = refl
word_again Id = refl
word_again Claim = refl
word_again Result = refl
word_again Outcome = refl

fault_again : (f : Fault) → row_of faults (fault_number f) ≡ Some f
fault_again ResultOutOfRange = refl
fault_again DivisionByZero = refl
fault_again IndexOutOfRange = refl
fault_again HandleNotJoinable = refl
fault_again ProcessTableFull = refl
fault_again AbortStatement = refl
fault_again AbandonedMonitor = refl
fault_again JoinedAborted = refl

-- with its operands
pub made_again : (i : Instr) → IsInstruction i → made_of (first_of i) (get_or (operands i) 0 0) (get_or (operands i) 1 0) ≡ Some i
made_again (Push n) is = refl
made_again (GetLocal slot) is = rw (slot_again slot is) refl
made_again (SetLocal slot) is = rw (slot_again slot is) refl
made_again (Jump place) is = refl
made_again (JumpIfZero place) is = refl
made_again (Call place) is = refl
made_again (Index base size) is = refl
made_again (ProcessAddress word) is = rw (word_again word) refl
made_again (Raise fault) is = rw (fault_again fault) refl
made_again (Fork place arguments) is = rw (le-ltb 16 arguments is) refl
made_again Pop is = refl
made_again Negate is = refl
made_again Not is = refl
made_again Ret is = refl
made_again RetValue is = refl
made_again OwnNumber is = refl
made_again Load is = refl
made_again Store is = refl
made_again Swap is = refl
made_again CompareSwap is = refl
made_again FetchOr is = refl
made_again FetchAdd is = refl
made_again Print is = refl
made_again FutexWait is = refl
made_again FutexWake is = refl
made_again FutexRequeue is = refl
made_again (Operate Add) is = refl
made_again (Operate Sub) is = refl
made_again (Operate Mul) is = refl
made_again (Operate Div) is = refl
made_again (Operate Mod) is = refl
made_again (Operate Eq) is = refl
made_again (Operate Ne) is = refl
made_again (Operate Lt) is = refl
made_again (Operate Le) is = refl
made_again (Operate Gt) is = refl
made_again (Operate Ge) is = refl
made_again (Operate BitAnd) is = refl
made_again (Operate BitOr) is = refl

-- what is made of what was read
pub made_by : (i kind : Instr) (pair : ℕ × ℕ) (r : Option Instr) → IsInstruction i → Some kind ≡ Some (first_of i)
    → Some pair ≡ Some (get_or (operands i) 0 0, get_or (operands i) 1 0) → r ≡ made_of kind pair.0 pair.1 → r ≡ Some i
made_by i kind pair r is k p e =
    let a : kind ≡ first_of i = cc in
    let b : pair ≡ (get_or (operands i) 0 0, get_or (operands i) 1 0) = cc in
    e ∙ (λ j. made_of (a j) ((b j).0) ((b j).1)) ∙ made_again i is

-- two operands at most
pub few_operands : (i : Instr) → length (operands i) ≤ 2
few_operands (Push n) = omega arith
few_operands (GetLocal slot) = omega arith
few_operands (SetLocal slot) = omega arith
few_operands (Jump place) = omega arith
few_operands (JumpIfZero place) = omega arith
few_operands (Call place) = omega arith
few_operands (Index base size) = omega arith
few_operands (ProcessAddress word) = omega arith
few_operands (Raise fault) = omega arith
few_operands (Fork place arguments) = omega arith
few_operands Pop = omega arith
few_operands Negate = omega arith
few_operands Not = omega arith
few_operands Ret = omega arith
few_operands RetValue = omega arith
few_operands OwnNumber = omega arith
few_operands Load = omega arith
few_operands Store = omega arith
few_operands Swap = omega arith
few_operands CompareSwap = omega arith
few_operands FetchOr = omega arith
few_operands FetchAdd = omega arith
few_operands Print = omega arith
few_operands FutexWait = omega arith
few_operands FutexWake = omega arith
few_operands FutexRequeue = omega arith
few_operands (Operate Add) = omega arith
few_operands (Operate Sub) = omega arith
few_operands (Operate Mul) = omega arith
few_operands (Operate Div) = omega arith
few_operands (Operate Mod) = omega arith
few_operands (Operate Eq) = omega arith
few_operands (Operate Ne) = omega arith
few_operands (Operate Lt) = omega arith
few_operands (Operate Le) = omega arith
few_operands (Operate Gt) = omega arith
few_operands (Operate Ge) = omega arith
few_operands (Operate BitAnd) = omega arith
few_operands (Operate BitOr) = omega arith
