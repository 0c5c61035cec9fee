-- The templates of a monitor's lock (Drepper, Futexes Are Tricky; robust-futex ABI: the pending entry is set before
-- and cleared after, the list is mended in between). Places count from each template's own beginning; e is the link
-- word, e + 1 the lock word.
use Rattle.std.specs.Prelude.{ℕ, ◌+◌, List, [], ◌∷◌, ◌++◌, Option, Some, None}
use Rattle.words.specs.declared.outcome.Fault.TheVariants.{AbandonedMonitor}
use Rattle.words.specs.declared.process.ProcessWord.{ProcessWord}
use Rattle.words.specs.declared.process.ProcessWord.TheVariants.{Head, Pending}
use Rattle.isa.specs.declared.operator.Operator.TheVariants.{Eq, BitAnd, BitOr}
use Rattle.isa.specs.declared.slot.Slot.TheVariants.{Template}
use Rattle.isa.specs.declared.instr.Instr.{Instr}
use Rattle.isa.specs.declared.instr.Instr.TheVariants.{Push, GetLocal, SetLocal, Pop, Operate, Jump, JumpIfZero, Call}
use Rattle.isa.specs.declared.instr.Instr.TheVariants.{OwnNumber, ProcessAddress, Raise, Load, Store, Swap}
use Rattle.isa.specs.declared.instr.Instr.TheVariants.{CompareSwap, FutexWait, FutexWake}
use Rattle.lowering.specs.declared.mark.Mark.{Mark}
use Rattle.lowering.specs.declared.mark.Mark.TheVariants.{Enter, Exit}
use Rattle.lowering.specs.declared.mark.Marked.{Marked}
use Rattle.lowering.specs.Marks.{with_mark, plain, plainly}
use Rattle.words.specs.declared.version.ImageVersion.{ImageVersion}
use Rattle.words.specs.declared.version.ImageVersion.TheVariants.{One, Two, Linux}
use Rattle.isa.specs.declared.instr.Instr.TheVariants.{Negate, FetchAdd}

-- the waiters bit of a lock word, the mark of a death, and the owner's bits
abbrev pub waiters : ℕ
waiters = 2147483648

-- OWNER_DIED, the bit that an owner's exit sets
abbrev pub owner_died : ℕ
owner_died = 1073741824

-- the bits of the owner's number
abbrev pub owner_bits : ℕ
owner_bits = 1073741823

-- the address of a word of the process that runs
abbrev pub own : ProcessWord → List Instr
own word = OwnNumber ∷ ProcessAddress word ∷ []

-- the recovery of a monitor, by its place, or a fault where it has none
abbrev pub recovery : Option ℕ → Instr
recovery (Some place) = Call place
recovery None = Raise AbandonedMonitor

-- the templates' own local
abbrev pub get : Instr
get = GetLocal Template

-- keeps the uppermost operand in the template's own local
abbrev pub keep : Instr
keep = SetLocal Template

-- the lock is taken in the form that tells of waiters, from place a on: where it is owned, its waiters bit is set and
-- the process sleeps; the mark stands where it is taken
abbrev pub take_at : Mark → ℕ → ℕ → List Marked
take_at mark e a =
    plainly (
    Push (e + 1) ∷ Load ∷ keep ∷ get ∷ Push owner_bits ∷ Operate BitAnd ∷ JumpIfZero (a + 23) ∷
    Push (e + 1) ∷ get ∷ get ∷ Push waiters ∷ Operate BitOr ∷ CompareSwap ∷ get ∷ Operate Eq ∷ JumpIfZero a ∷
    Push (e + 1) ∷ get ∷ Push waiters ∷ Operate BitOr ∷ FutexWait ∷ Pop ∷ Jump a ∷
    Push (e + 1) ∷ get ∷ OwnNumber ∷ Push waiters ∷ Operate BitOr ∷ []) ++
    (with_mark mark CompareSwap ∷ plainly (get ∷ Operate Eq ∷ JumpIfZero a ∷ []))

-- the taking of a lock, from place 0 on
abbrev pub take_code : Mark → ℕ → List Marked
take_code mark e = take_at mark e 0

-- with the lock, from a place on: the monitor comes first in the robust list, nothing is pending any more, and an
-- abandoned monitor is recovered first
abbrev pub got_at : ℕ → Instr → ℕ → List Marked
got_at e recover start =
    plainly (Push e ∷ (own Head ++ (Load ∷ Store ∷ (own Head ++ (Push e ∷ Store ∷ (own Pending ++ (Push 0 ∷ Store ∷
    get ∷ Push owner_died ∷ Operate BitAnd ∷ JumpIfZero (start + 18) ∷ recover ∷ [])))))))

-- what follows once it is taken, from place 0 on
abbrev pub got_code : ℕ → Instr → List Marked
got_code e recover = got_at e recover 0

-- a monitor is entered, by its number and its link word: at once where the lock is free
abbrev pub try_code : ℕ → ℕ → List Marked
try_code m e =
    plainly (own Pending ++ (Push e ∷ Store ∷ Push (e + 1) ∷ Push 0 ∷ OwnNumber ∷ [])) ++
    (with_mark (Enter m) CompareSwap ∷ plainly (keep ∷ get ∷ JumpIfZero 43 ∷ []))

-- the code that enters monitor m
abbrev pub enter_code : ℕ → ℕ → Instr → List Marked
enter_code m e recover = try_code m e ++ (take_at (Enter m) e 11 ++ got_at e recover 43)

-- how a lock's word is given up, by the version of an image: it is swapped for 0; or, by a fetch-and-add of 2^32 less
-- that number, the number of its owner, who is the process that runs, is taken off it, which leaves the waiters bit
abbrev pub give_up : ImageVersion → Mark → List Marked
give_up One mark = plain (Push 0) ∷ with_mark mark Swap ∷ []
give_up Two mark = plain (Push 0) ∷ with_mark mark Swap ∷ []
give_up Linux mark = plain OwnNumber ∷ plain Negate ∷ with_mark mark FetchAdd ∷ []

-- how many instructions the giving up of a lock is, and the leaving of a monitor
abbrev pub leave_length : ImageVersion → ℕ
leave_length One = 19
leave_length Two = 19
leave_length Linux = 20

abbrev pub exit_length : ImageVersion → ℕ
exit_length v = leave_length v + 4

-- the lock is given up, from a place on, and one waiter is woken where there may be any; the mark stands where it is
-- given up
abbrev pub leave_at : ImageVersion → Mark → ℕ → ℕ → List Marked
leave_at v mark e start =
    plainly (own Pending ++ (Push e ∷ Store ∷ (own Head ++ (Push e ∷ Load ∷ Store ∷ Push (e + 1) ∷ [])))) ++
    (give_up v mark ++ plainly (Push waiters ∷ Operate BitAnd ∷ JumpIfZero (start + leave_length v) ∷
    Push (e + 1) ∷ Push 1 ∷ FutexWake ∷ Pop ∷ []))

-- the giving up of a lock, from place 0 on
abbrev pub leave_code : ImageVersion → Mark → ℕ → List Marked
leave_code v mark e = leave_at v mark e 0

-- a monitor is left, by its number and its link word
abbrev pub exit_code : ImageVersion → ℕ → ℕ → List Marked
exit_code v m e = leave_at v (Exit m) e 0 ++ plainly (own Pending ++ (Push 0 ∷ Store ∷ []))
