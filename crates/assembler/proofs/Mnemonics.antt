-- Names of instructions have no byte up to a space.
use Rattle.std.proofs.Common.{◌≡◌, ◌&&◌, ℕ, Bool, true, false, List, [], ◌∷◌, codes, ltb, refl}
use Rattle.std.proofs.lemmas.Bool.{ltb-true}
use Rattle.isa.specs.Texts.{mnemonic}
use Rattle.isa.specs.declared.operator.Operator.TheVariants.{Add, Sub, Mul, Div, Mod, Eq, Ne, Lt, Le, Gt, Ge, BitAnd}
use Rattle.isa.specs.declared.operator.Operator.TheVariants.{BitOr}
use Rattle.isa.specs.declared.instr.Instr.{Instr}
use Rattle.isa.specs.declared.instr.Instr.TheVariants.{Push, GetLocal, SetLocal, Pop, Operate, Negate, Not, Jump}
use Rattle.isa.specs.declared.instr.Instr.TheVariants.{JumpIfZero, Call, Ret, RetValue, Index, OwnNumber}
use Rattle.isa.specs.declared.instr.Instr.TheVariants.{ProcessAddress, Raise, Load, Store, Swap, CompareSwap, FetchOr}
use Rattle.isa.specs.declared.instr.Instr.TheVariants.{FetchAdd, Fork, Print, FutexWait, FutexWake, FutexRequeue}
use Rattle.assembler.proofs.Cutting.{Plain}

all_above : List ℕ → Bool
all_above [] = true
all_above (x ∷ xs) = ltb 32 x && all_above xs

plain_more : (x : ℕ) (xs : List ℕ) (b : Bool) → ltb 32 x ≡ b → (b && all_above xs) ≡ true
    → (all_above xs ≡ true → Plain xs) → Plain (x ∷ xs)
plain_more x xs true less is rest = (ltb-true 32 x less, rest is)
plain_more x xs false less is rest = absurd cc

plain_by : (xs : List ℕ) → all_above xs ≡ true → Plain xs
unfolding all_above
plain_by [] is = tt
plain_by (x ∷ xs) is = plain_more x xs (ltb 32 x) refl is (plain_by xs)

pub plain_mnemonic : (i : Instr) → Plain (mnemonic i)
unfolding all_above
plain_mnemonic (Push n) = plain_by (codes "PUSH") refl
plain_mnemonic (GetLocal slot) = plain_by (codes "GETL") refl
plain_mnemonic (SetLocal slot) = plain_by (codes "SETL") refl
plain_mnemonic (Jump place) = plain_by (codes "JUMP") refl
plain_mnemonic (JumpIfZero place) = plain_by (codes "JZ") refl
plain_mnemonic (Call place) = plain_by (codes "CALL") refl
plain_mnemonic (Index base size) = plain_by (codes "INDEX") refl
plain_mnemonic (ProcessAddress word) = plain_by (codes "PADDR") refl
plain_mnemonic (Raise fault) = plain_by (codes "FAULT") refl
plain_mnemonic (Fork place arguments) = plain_by (codes "FORK") refl
plain_mnemonic Pop = plain_by (codes "POP") refl
plain_mnemonic Negate = plain_by (codes "NEG") refl
plain_mnemonic Not = plain_by (codes "NOT") refl
plain_mnemonic Ret = plain_by (codes "RET") refl
plain_mnemonic RetValue = plain_by (codes "RETV") refl
plain_mnemonic OwnNumber = plain_by (codes "SELF") refl
plain_mnemonic Load = plain_by (codes "LOAD") refl
plain_mnemonic Store = plain_by (codes "STORE") refl
plain_mnemonic Swap = plain_by (codes "SWAP") refl
plain_mnemonic CompareSwap = plain_by (codes "CAS") refl
plain_mnemonic FetchOr = plain_by (codes "AOR") refl
plain_mnemonic FetchAdd = plain_by (codes "AADD") refl
plain_mnemonic Print = plain_by (codes "PRINT") refl
plain_mnemonic FutexWait = plain_by (codes "FWAIT") refl
plain_mnemonic FutexWake = plain_by (codes "FWAKE") refl
plain_mnemonic FutexRequeue = plain_by (codes "FREQ") refl
plain_mnemonic (Operate Add) = plain_by (codes "ADD") refl
plain_mnemonic (Operate Sub) = plain_by (codes "SUB") refl
plain_mnemonic (Operate Mul) = plain_by (codes "MUL") refl
plain_mnemonic (Operate Div) = plain_by (codes "DIV") refl
plain_mnemonic (Operate Mod) = plain_by (codes "MOD") refl
plain_mnemonic (Operate Eq) = plain_by (codes "EQ") refl
plain_mnemonic (Operate Ne) = plain_by (codes "NE") refl
plain_mnemonic (Operate Lt) = plain_by (codes "LT") refl
plain_mnemonic (Operate Le) = plain_by (codes "LE") refl
plain_mnemonic (Operate Gt) = plain_by (codes "GT") refl
plain_mnemonic (Operate Ge) = plain_by (codes "GE") refl
plain_mnemonic (Operate BitAnd) = plain_by (codes "BAND") refl
plain_mnemonic (Operate BitOr) = plain_by (codes "BOR") refl
