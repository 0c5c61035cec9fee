-- Instructions within the limits of an image of so many, that lead to places in it.
use Rattle.std.proofs.Common.{◌≡◌, ◌+◌, ◌<◌, ◌≤◌, ◌++◌, ℕ, List, [], ◌∷◌, Bool, true, false, length, refl, arith}
use Rattle.std.specs.Prelude.{cond, nat_lt, nat_le}
use Rattle.std.specs.List.{AllByRecursion}
use Rattle.std.proofs.lemmas.Bool.{ltb-true, leb-true}
use Rattle.isa.specs.Instructions.{IsInstruction, IsSlot, LeadsBelow}
use Rattle.isa.specs.Limits.{most_locals}
use Rattle.isa.specs.declared.slot.Slot.{Slot}
use Rattle.isa.specs.declared.slot.Slot.TheVariants.{Local, Template}
use Rattle.isa.specs.declared.instr.Instr.{Instr}
use Rattle.isa.specs.declared.instr.Instr.TheVariants.{Push, GetLocal, SetLocal, Pop, Operate, Negate, Not, Jump}
use Rattle.isa.specs.declared.instr.Instr.TheVariants.{JumpIfZero, Call, Fork, Ret, RetValue, Index, OwnNumber}
use Rattle.isa.specs.declared.instr.Instr.TheVariants.{ProcessAddress, Raise, Load, Store, Swap, CompareSwap}
use Rattle.isa.specs.declared.instr.Instr.TheVariants.{FetchOr, FetchAdd, Print, FutexWait, FutexWake, FutexRequeue}
use Rattle.lowering.specs.declared.mark.Marked.{Marked}
use Rattle.lowering.specs.Marks.{instructions, rebase, rebase_all, Code}

abbrev pub IsFine : ℕ → Instr → Type 0
IsFine total i = IsInstruction i × LeadsBelow total i

abbrev pub AreFine : ℕ → List Marked → Type 0
AreFine total [] = Unit {0}
AreFine total (i ∷ is) = IsFine total i.instruction × AreFine total is

pub fine_append : (total : ℕ) (xs ys : List Marked) → AreFine total xs → AreFine total ys → AreFine total (xs ++ ys)
fine_append total [] ys h k = k
fine_append total (x ∷ xs) ys h k = (h.0, fine_append total xs ys h.1 k)

-- code that is fine where it ends before the total, and where it ends by it
abbrev pub HasRoom : ℕ → Code → Type 0
HasRoom total f = (a : ℕ) → a + length (f a) < total → AreFine total (f a)

abbrev pub Ends : ℕ → Code → Type 0
Ends total f = (a : ℕ) → a + length (f a) ≤ total → AreFine total (f a)

pub all_instructions : (total : ℕ) (is : List Marked) → AreFine total is
    → AllByRecursion IsInstruction (instructions is)
all_instructions total [] h = tt
all_instructions total (i ∷ is) h = (h.0.0, all_instructions total is h.1)

pub all_lead : (total : ℕ) (is : List Marked) → AreFine total is → AllByRecursion (LeadsBelow total) (instructions is)
all_lead total [] h = tt
all_lead total (i ∷ is) h = (h.0.1, all_lead total is h.1)

-- of a template of this length, whose places count from its own beginning
abbrev pub slot_fits : Slot → Bool
slot_fits (Local n) = nat_lt n most_locals
slot_fits Template = true

abbrev pub fits : ℕ → ℕ → Instr → Bool
fits total end (GetLocal slot) = slot_fits slot
fits total end (SetLocal slot) = slot_fits slot
fits total end (Jump place) = nat_le place end
fits total end (JumpIfZero place) = nat_le place end
fits total end (Call place) = nat_lt place total
fits total end (Fork place arguments) = false
fits total end i = true

abbrev pub all_fit : ℕ → ℕ → List Marked → Bool
all_fit total end [] = true
all_fit total end (i ∷ is) = cond (fits total end i.instruction) (all_fit total end is) false

slot_fine : (s : Slot) → slot_fits s ≡ true → IsSlot s
slot_fine (Local n) e = ltb-true n most_locals e
slot_fine Template e = tt

false_true : false ≡ true → ⊥
false_true e = cc

both : (b c : Bool) → cond b c false ≡ true → (b ≡ true) × (c ≡ true)
both true c e = (refl, e)
both false c e = absurd (false_true e)

module _ (total end a : ℕ) (room : a + end < total) where
  jump_fine : (n : ℕ) → nat_le n end ≡ true → a + n < total
  jump_fine n e = let h = leb-true n end e in omega (arith, h, room)

  moved_fine : (i : Instr) → fits total end i ≡ true → IsFine total (rebase a i)
  moved_fine (Push n) e = (tt, tt)
  moved_fine (GetLocal slot) e = (slot_fine slot e, tt)
  moved_fine (SetLocal slot) e = (slot_fine slot e, tt)
  moved_fine Pop e = (tt, tt)
  moved_fine (Operate op) e = (tt, tt)
  moved_fine Negate e = (tt, tt)
  moved_fine Not e = (tt, tt)
  moved_fine (Jump place) e = (tt, jump_fine place e)
  moved_fine (JumpIfZero place) e = (tt, jump_fine place e)
  moved_fine (Call place) e = (tt, ltb-true place total e)
  moved_fine (Fork place arguments) e = absurd (false_true e)
  moved_fine Ret e = (tt, tt)
  moved_fine RetValue e = (tt, tt)
  moved_fine (Index base size) e = (tt, tt)
  moved_fine OwnNumber e = (tt, tt)
  moved_fine (ProcessAddress word) e = (tt, tt)
  moved_fine (Raise fault) e = (tt, tt)
  moved_fine Load e = (tt, tt)
  moved_fine Store e = (tt, tt)
  moved_fine Swap e = (tt, tt)
  moved_fine CompareSwap e = (tt, tt)
  moved_fine FetchOr e = (tt, tt)
  moved_fine FetchAdd e = (tt, tt)
  moved_fine Print e = (tt, tt)
  moved_fine FutexWait e = (tt, tt)
  moved_fine FutexWake e = (tt, tt)
  moved_fine FutexRequeue e = (tt, tt)

  -- a template that fits, at a place with room behind it
  pub placed_fine : (is : List Marked) → all_fit total end is ≡ true → AreFine total (rebase_all a is)
  placed_fine [] e = tt
  placed_fine (i ∷ is) e =
      let h = both (fits total end i.instruction) (all_fit total end is) e in
      (moved_fine i.instruction h.0, placed_fine is h.1)
