-- What the tests of an image's limits tell.
use Rattle.std.proofs.Common.{◌≡◌, ◌∙◌, ◌<◌, ℕ, Bool, true, false, cond, List, [], ◌∷◌, Option, Some, None, length}
use Rattle.std.proofs.Common.{MatchBool, refl, lt-ltb, subst, sym}
use Rattle.std.specs.Prelude.{IfSome}
use Rattle.words.specs.declared.version.ImageVersion.{ImageVersion}
use Rattle.std.specs.List.{AllByRecursion}
use Rattle.std.proofs.lemmas.Bool.{false≢true, leb-true, le-leb, ltb-true}
use Rattle.isa.specs.Instructions.{IsInstruction, IsSlot, LeadsBelow, target}
use Rattle.isa.specs.Programs.{IsProgram, Program}
use Rattle.isa.specs.Reading.{lead_below, leads_below}
use Rattle.isa.proofs.TargetLaws.{all_lead}
use Rattle.isa.specs.Limits.{most_arguments, most_locals}
use Rattle.isa.specs.declared.slot.Slot.{Slot}
use Rattle.isa.specs.declared.slot.Slot.TheVariants.{Local, Template}
use Rattle.isa.specs.declared.instr.Instr.{Instr}
use Rattle.isa.specs.declared.instr.Instr.TheVariants.{Push, GetLocal, SetLocal, Pop, Operate, Negate, Not, Jump}
use Rattle.isa.specs.declared.instr.Instr.TheVariants.{JumpIfZero, Call, Ret, RetValue, Index, OwnNumber}
use Rattle.isa.specs.declared.instr.Instr.TheVariants.{ProcessAddress, Raise, Load, Store, Swap, CompareSwap, FetchOr}
use Rattle.isa.specs.declared.instr.Instr.TheVariants.{FetchAdd, Fork, Print, FutexWait, FutexWake, FutexRequeue}
use Rattle.assembler.specs.Within.{are_within, is_slot, is_within}

slot_within : (s : Slot) → is_slot s ≡ true → IsSlot s
slot_within (Local n) is = ltb-true n most_locals is
slot_within Template is = tt

within_slot : (s : Slot) → IsSlot s → is_slot s ≡ true
within_slot (Local n) is = lt-ltb n most_locals is
within_slot Template is = refl

instruction_within : (i : Instr) → is_within i ≡ true → IsInstruction i
instruction_within (Push n) is = tt
instruction_within (GetLocal slot) is = slot_within slot is
instruction_within (SetLocal slot) is = slot_within slot is
instruction_within (Operate operator) is = tt
instruction_within (Jump place) is = tt
instruction_within (JumpIfZero place) is = tt
instruction_within (Call place) is = tt
instruction_within (Index base size) is = tt
instruction_within (ProcessAddress word) is = tt
instruction_within (Raise fault) is = tt
instruction_within (Fork place arguments) is = leb-true arguments most_arguments is
instruction_within Pop is = tt
instruction_within Negate is = tt
instruction_within Not is = tt
instruction_within Ret is = tt
instruction_within RetValue is = tt
instruction_within OwnNumber is = tt
instruction_within Load is = tt
instruction_within Store is = tt
instruction_within Swap is = tt
instruction_within CompareSwap is = tt
instruction_within FetchOr is = tt
instruction_within FetchAdd is = tt
instruction_within Print is = tt
instruction_within FutexWait is = tt
instruction_within FutexWake is = tt
instruction_within FutexRequeue is = tt

within_instruction : (i : Instr) → IsInstruction i → is_within i ≡ true
within_instruction (Push n) is = refl
within_instruction (GetLocal slot) is = within_slot slot is
within_instruction (SetLocal slot) is = within_slot slot is
within_instruction (Operate operator) is = refl
within_instruction (Jump place) is = refl
within_instruction (JumpIfZero place) is = refl
within_instruction (Call place) is = refl
within_instruction (Index base size) is = refl
within_instruction (ProcessAddress word) is = refl
within_instruction (Raise fault) is = refl
within_instruction (Fork place arguments) is = le-leb arguments most_arguments is
within_instruction Pop is = refl
within_instruction Negate is = refl
within_instruction Not is = refl
within_instruction Ret is = refl
within_instruction RetValue is = refl
within_instruction OwnNumber is = refl
within_instruction Load is = refl
within_instruction Store is = refl
within_instruction Swap is = refl
within_instruction CompareSwap is = refl
within_instruction FetchOr is = refl
within_instruction FetchAdd is = refl
within_instruction Print is = refl
within_instruction FutexWait is = refl
within_instruction FutexWake is = refl
within_instruction FutexRequeue is = refl

both : (b c : Bool) → cond b c false ≡ true → (b ≡ true) × (c ≡ true)
both true c is = (refl, is)
both false c is = absurd cc

pub all_within : (code : List Instr) → are_within code ≡ true → AllByRecursion IsInstruction code
all_within [] is = tt
all_within (i ∷ code) is =
    let parts = both (is_within i) (are_within code) is in
    (instruction_within i parts.0, all_within code parts.1)

pub within_all : (code : List Instr) → AllByRecursion IsInstruction code → are_within code ≡ true
within_all [] each = refl
within_all (i ∷ code) each = rw (within_instruction i each.0) (within_all code each.1)

below_place : (count : ℕ) (place : Option ℕ) → IfSome place (λ p. p < count) → leads_below count place ≡ true
below_place count None is = refl
below_place count (Some p) is = lt-ltb p count is

lead_all : (count : ℕ) (code : List Instr) → AllByRecursion (LeadsBelow count) code → lead_below count code ≡ true
lead_all count [] each = refl
lead_all count (i ∷ code) each = rw (below_place count (target i) each.0) (lead_all count code each.1)

pub ends_so : (r : Bool) (count : ℕ) (p : Program) → r ≡ lead_below count p.code → count ≡ length p.code
    → (AllByRecursion (LeadsBelow (length p.code)) p.code → IsProgram p)
    → MatchBool r (IsProgram p) (IsProgram p → ⊥)
ends_so true count p is e made =
    made (subst (λ (n : ℕ). AllByRecursion (LeadsBelow n) p.code) e (all_lead count p.code (sym is)))
ends_so false count p is e made =
    λ h. false≢true (is ∙ lead_all count p.code
    (subst (λ (n : ℕ). AllByRecursion (LeadsBelow n) p.code) (sym e) h.targets))

-- the same program
pub program_as : (version : ImageVersion) (start : ℕ) (ms ns : List ℕ) (cs ds : List Instr) → ms ≡ ns → cs ≡ ds
    → IsProgram (record { version = version; monitors = ms; start = start; code = cs })
    → IsProgram (record { version = version; monitors = ns; start = start; code = ds })
program_as version start ms ns cs ds same also h =
    subst (λ (ks : List Instr). IsProgram (record { version = version; monitors = ns; start = start; code = ks })) also
    (subst (λ (ks : List ℕ). IsProgram (record { version = version; monitors = ks; start = start; code = cs })) same h)
