-- What the test of instructions says of an image.
use Rattle.std.proofs.Common.{◌≡◌, ◌+◌, ℕ, suc, List, [], ◌∷◌, Bool, true, false, refl, ap, ◌∙◌, length, length-append}
use Rattle.std.proofs.Common.{arith}
use Rattle.std.specs.Prelude.{cond, nat_lt, nat_le, ◌&&◌}
use Rattle.std.specs.List.{AllByRecursion}
use Rattle.std.proofs.lemmas.Bool.{and_parts, ltb-true, lt-ltb, leb-true, le-leb}
use Rattle.isa.specs.Instructions.{IsInstruction, IsSlot, LeadsBelow}
use Rattle.isa.specs.Limits.{most_arguments, most_locals}
use Rattle.isa.specs.declared.slot.Slot.{Slot}
use Rattle.isa.specs.declared.slot.Slot.TheVariants.{Local, Template}
use Rattle.isa.specs.declared.instr.Instr.{Instr}
use Rattle.isa.specs.declared.instr.Instr.TheVariants.{Push, GetLocal, SetLocal, Pop, Operate, Negate, Not, Jump}
use Rattle.isa.specs.declared.instr.Instr.TheVariants.{JumpIfZero, Call, Fork, Ret, RetValue, Index, OwnNumber}
use Rattle.isa.specs.declared.instr.Instr.TheVariants.{ProcessAddress, Raise, Load, Store, Swap, CompareSwap, FetchOr}
use Rattle.isa.specs.declared.instr.Instr.TheVariants.{FetchAdd, Print, FutexWait, FutexWake, FutexRequeue}
use Rattle.lowering.specs.declared.mark.Marked.{Marked}
use Rattle.lowering.specs.Marks.{instructions}
use Rattle.lowering.specs.Linking.{linked_code}
use Rattle.codegen.specs.Generated.{Piece}
use Rattle.linker.specs.Linked.{fits, all_fit, slot_fits, code_from, length_of}
use Rattle.linker.proofs.Fitting.{both, instructions-append}

slot_yes : (s : Slot) → slot_fits s ≡ true → IsSlot s
slot_yes (Local n) e = ltb-true n most_locals e
slot_yes Template e = tt

slot_no : (s : Slot) → IsSlot s → slot_fits s ≡ true
slot_no (Local n) h = lt-ltb n most_locals h
slot_no Template h = refl

two : (b c : Bool) → b ≡ true → c ≡ true → cond b c false ≡ true
two b c e h = ap (λ x. cond x c false) e ∙ h

and : (b c : Bool) → b ≡ true → c ≡ true → (b && c) ≡ true
and true true e h = refl
and true false e h = h
and false c e h = e

one_fits : (t : ℕ) (i : Instr) → fits t i ≡ true → IsInstruction i × LeadsBelow t i
one_fits t (GetLocal s) e = (slot_yes s e, tt)
one_fits t (SetLocal s) e = (slot_yes s e, tt)
one_fits t (Jump p) e = (tt, ltb-true p t e)
one_fits t (JumpIfZero p) e = (tt, ltb-true p t e)
one_fits t (Call p) e = (tt, ltb-true p t e)
one_fits t (Fork p n) e =
    let h = and_parts (nat_lt p t) (nat_le n most_arguments) e in (leb-true n most_arguments h.1, ltb-true p t h.0)
one_fits t (Push n) e = (tt, tt)
one_fits t Pop e = (tt, tt)
one_fits t (Operate op) e = (tt, tt)
one_fits t Negate e = (tt, tt)
one_fits t Not e = (tt, tt)
one_fits t Ret e = (tt, tt)
one_fits t RetValue e = (tt, tt)
one_fits t (Index b n) e = (tt, tt)
one_fits t OwnNumber e = (tt, tt)
one_fits t (ProcessAddress w) e = (tt, tt)
one_fits t (Raise f) e = (tt, tt)
one_fits t Load e = (tt, tt)
one_fits t Store e = (tt, tt)
one_fits t Swap e = (tt, tt)
one_fits t CompareSwap e = (tt, tt)
one_fits t FetchOr e = (tt, tt)
one_fits t FetchAdd e = (tt, tt)
one_fits t Print e = (tt, tt)
one_fits t FutexWait e = (tt, tt)
one_fits t FutexWake e = (tt, tt)
one_fits t FutexRequeue e = (tt, tt)

fits_one : (t : ℕ) (i : Instr) → IsInstruction i → LeadsBelow t i → fits t i ≡ true
fits_one t (GetLocal s) h k = slot_no s h
fits_one t (SetLocal s) h k = slot_no s h
fits_one t (Jump p) h k = lt-ltb p t k
fits_one t (JumpIfZero p) h k = lt-ltb p t k
fits_one t (Call p) h k = lt-ltb p t k
fits_one t (Fork p n) h k = and (nat_lt p t) (nat_le n most_arguments) (lt-ltb p t k) (le-leb n most_arguments h)
fits_one t (Push n) h k = refl
fits_one t Pop h k = refl
fits_one t (Operate op) h k = refl
fits_one t Negate h k = refl
fits_one t Not h k = refl
fits_one t Ret h k = refl
fits_one t RetValue h k = refl
fits_one t (Index b n) h k = refl
fits_one t OwnNumber h k = refl
fits_one t (ProcessAddress w) h k = refl
fits_one t (Raise f) h k = refl
fits_one t Load h k = refl
fits_one t Store h k = refl
fits_one t Swap h k = refl
fits_one t CompareSwap h k = refl
fits_one t FetchOr h k = refl
fits_one t FetchAdd h k = refl
fits_one t Print h k = refl
fits_one t FutexWait h k = refl
fits_one t FutexWake h k = refl
fits_one t FutexRequeue h k = refl

-- where all fit, all are within the limits and lead into the code
pub all_instructions : (t : ℕ) (is : List Instr) → all_fit t is ≡ true → AllByRecursion IsInstruction is
all_instructions t [] e = tt
all_instructions t (i ∷ is) e =
    let h = both (fits t i) (all_fit t is) e in ((one_fits t i h.0).0, all_instructions t is h.1)

pub all_lead : (t : ℕ) (is : List Instr) → all_fit t is ≡ true → AllByRecursion (LeadsBelow t) is
all_lead t [] e = tt
all_lead t (i ∷ is) e = let h = both (fits t i) (all_fit t is) e in ((one_fits t i h.0).1, all_lead t is h.1)

pub fit_where : (t : ℕ) (is : List Instr) → AllByRecursion IsInstruction is → AllByRecursion (LeadsBelow t) is
    → all_fit t is ≡ true
fit_where t [] h k = refl
fit_where t (i ∷ is) h k = two (fits t i) (all_fit t is) (fits_one t i h.0 k.0) (fit_where t is h.1 k.1)

linked_length : (f : ℕ → ℕ) (n : ℕ) (is : List Marked) → length (instructions (linked_code f n is)) ≡ length is
linked_length f n [] = refl
linked_length f n (i ∷ is) = ap suc (linked_length f n is)

-- how long the linked code is
pub code_length : (f : ℕ → ℕ) (n : ℕ) (ps : List Piece) → length (instructions (code_from f n ps)) ≡ length_of ps
code_length f n [] = refl
code_length f n (x ∷ xs) =
    let all = ap length (instructions-append (linked_code f n x.code) (code_from f (n + length x.code) xs)) in
    let a =
    length-append (instructions (linked_code f n x.code)) (instructions (code_from f (n + length x.code) xs)) in
    let b = linked_length f n x.code in
    let c = code_length f (n + length x.code) xs in omega (arith, all, a, b, c)
