-- An instruction as text.
use Rattle.std.specs.Prelude.{List, ℕ, ◌++◌, codes}
use Rattle.std.specs.List.{flat_map}
use Rattle.std.specs.Fmt.{decimal}
use Rattle.isa.specs.declared.operator.Operator.{Operator}
use Rattle.isa.specs.declared.operator.Operator.TheVariants.{Add, Sub, Mul, Div, Mod, Eq, Ne, Lt, Le, Gt, Ge, BitAnd}
use Rattle.isa.specs.declared.operator.Operator.TheVariants.{BitOr}
use Rattle.isa.specs.declared.instr.Instr.{Instr}
use Rattle.isa.specs.declared.instr.Instr.TheVariants.{Push, GetLocal, SetLocal, Pop, Operate, Negate, Not, Jump}
use Rattle.isa.specs.declared.instr.Instr.TheVariants.{JumpIfZero, Call, Ret, RetValue, Index, OwnNumber}
use Rattle.isa.specs.declared.instr.Instr.TheVariants.{ProcessAddress, Raise, Load, Store, Swap, CompareSwap, FetchOr}
use Rattle.isa.specs.declared.instr.Instr.TheVariants.{FetchAdd, Fork, Print, FutexWait, FutexWake, FutexRequeue}
use Rattle.isa.specs.Instructions.{operands}

-- the name of an operator
abbrev pub operator_text : Operator → List ℕ
operator_text Add = codes "ADD"
operator_text Sub = codes "SUB"
operator_text Mul = codes "MUL"
operator_text Div = codes "DIV"
operator_text Mod = codes "MOD"
operator_text Eq = codes "EQ"
operator_text Ne = codes "NE"
operator_text Lt = codes "LT"
operator_text Le = codes "LE"
operator_text Gt = codes "GT"
operator_text Ge = codes "GE"
operator_text BitAnd = codes "BAND"
operator_text BitOr = codes "BOR"

-- the name of an instruction
abbrev pub mnemonic : Instr → List ℕ
mnemonic (Push n) = codes "PUSH"
mnemonic (GetLocal slot) = codes "GETL"
mnemonic (SetLocal slot) = codes "SETL"
mnemonic Pop = codes "POP"
mnemonic (Operate operator) = operator_text operator
mnemonic Negate = codes "NEG"
mnemonic Not = codes "NOT"
mnemonic (Jump place) = codes "JUMP"
mnemonic (JumpIfZero place) = codes "JZ"
mnemonic (Call place) = codes "CALL"
mnemonic Ret = codes "RET"
mnemonic RetValue = codes "RETV"
mnemonic (Index base size) = codes "INDEX"
mnemonic OwnNumber = codes "SELF"
mnemonic (ProcessAddress word) = codes "PADDR"
mnemonic (Raise fault) = codes "FAULT"
mnemonic Load = codes "LOAD"
mnemonic Store = codes "STORE"
mnemonic Swap = codes "SWAP"
mnemonic CompareSwap = codes "CAS"
mnemonic FetchOr = codes "AOR"
mnemonic FetchAdd = codes "AADD"
mnemonic (Fork place arguments) = codes "FORK"
mnemonic Print = codes "PRINT"
mnemonic FutexWait = codes "FWAIT"
mnemonic FutexWake = codes "FWAKE"
mnemonic FutexRequeue = codes "FREQ"

-- an instruction: its name, and behind it its operands
abbrev pub instruction_text : Instr → List ℕ
instruction_text i = mnemonic i ++ flat_map (λ n. codes " " ++ decimal n) (operands i)
