-- The test of the places that instructions name.
use Rattle.std.proofs.Common.{◌≡◌, ℕ, ◌<◌, Bool, true, false, ltb, inl, inr, List, [], ◌∷◌, length, Option, Some}
use Rattle.std.proofs.Common.{None, refl, sym, ap, ◌∙◌}
use Rattle.std.specs.List.{AllByRecursion}
use Rattle.std.specs.Prelude.{IfSome}
use Rattle.std.proofs.lemmas.Bool.{ltb-true, lt-ltb}
use Rattle.isa.specs.declared.instr.Instr.{Instr}
use Rattle.isa.specs.Instructions.{target, LeadsBelow}
use Rattle.isa.specs.Programs.{Program, IsProgram}
use Rattle.isa.specs.Reading.{leads_below, lead_below, stays_inside}
use Rattle.isa.proofs.Parts.{chosen}

place_below : (count : ℕ) (place : Option ℕ) → leads_below count place ≡ true → IfSome place (λ p. p < count)
place_below count None e = tt
place_below count (Some p) e = ltb-true p count e

below_place : (count : ℕ) (place : Option ℕ) → IfSome place (λ p. p < count) → leads_below count place ≡ true
below_place count None is = refl
below_place count (Some p) is = lt-ltb p count is

pub all_lead : (count : ℕ) (code : List Instr) → lead_below count code ≡ true → AllByRecursion (LeadsBelow count) code
all_lead count [] e = tt
all_lead count (i ∷ code) e =
    elim (chosen (leads_below count (target i)) (lead_below count code) false true e) [
      | inl w ↦ (place_below count (target i) w.0, all_lead count code w.1)
      | inr w ↦ absurd (cc (w.1))
    ]

lead_all : (count : ℕ) (code : List Instr) → AllByRecursion (LeadsBelow count) code → lead_below count code ≡ true
lead_all count [] each = refl
lead_all count (i ∷ code) each = rw (below_place count (target i) each.0) (lead_all count code each.1)

pub lies : (p : Program) → stays_inside p ≡ true → (p.start < length p.code) × AllByRecursion
    (LeadsBelow (length p.code)) p.code
lies p e =
    elim (chosen (ltb p.start (length p.code)) (lead_below (length p.code) p.code) false true e) [
      | inl w ↦ (ltb-true p.start (length p.code) w.0, all_lead (length p.code) p.code w.1)
      | inr w ↦ absurd (cc (w.1))
    ]

pub lies_again : (p : Program) → IsProgram p → stays_inside p ≡ true
lies_again p is = rw (lt-ltb p.start (length p.code) is.starts) (lead_all (length p.code) p.code is.targets)

-- a test of all instructions, in a slice of them, that was passed
pub passed : (answer : Bool) (count len : ℕ) (slice code : List Instr) → answer ≡ true → answer ≡ lead_below count
    slice → count ≡ len → slice ≡ code → length slice ≡ len → AllByRecursion (LeadsBelow (length code)) code
passed answer count len slice code held test is same long =
    let all : length code ≡ count = ap length (sym same) ∙ long ∙ sym is in
    rw all (all_lead count code (ap (lead_below count) (sym same) ∙ sym test ∙ held))
