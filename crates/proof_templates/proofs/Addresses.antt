-- The words of the monitors' variables lie in the memory, each at an address of its own, apart from the words of the
-- protocol.
use Rattle.std.proofs.Common.{◌≡◌, ℕ, ◌<◌, true, Option, Some, None, slice_get, refl, sym, ap, ◌∙◌, arith}
use Rattle.isa.specs.Programs.{memory_size}
use Rattle.program.specs.declared.kinds.Member.{Member}
use Rattle.program.specs.declared.kinds.MemberType.{MemberType}
use Rattle.program.specs.declared.kinds.MemberType.TheVariants.{Variable, Condition, Array}
use Rattle.program.specs.Trees.{Monitor, Program}
use Rattle.program.specs.Scope.{member_in, member_type}
use Rattle.proof_thread.specs.Variables.{is_condition}
use Rattle.program.specs.WellFormed.{member_words}
use Rattle.lowering.specs.Cells.{OfMember, IsCell}
use Rattle.lowering.specs.Cells as C
use Rattle.lowering.specs.Pieces.{code_of}
use Rattle.lowering.proofs.CellLaws.{cells_apart, cell_above}
use Rattle.lowering_limits.proofs.Memory.{inside}
use Rattle.protocol.specs.Cells.{Cell, LockOf, LinkOf, HeadOf, PendingOf, IdOf, ClaimOf, ResultOf, OutcomeOf}
use Rattle.protocol.specs.Cells.{SequenceOf}
use Rattle.proof_thread.specs.Variables.{HasIndex, IsVariable, variable_address}
use Rattle.proof_templates.specs.Layout.{place, valid}
use Rattle.proof_templates.proofs.Layouts.{in_code, same_place, is_cell}

-- a variable is a word of its member
variable_there : (o : Option Monitor) (n i : ℕ) → HasIndex (member_in o n) i
    → (x : Monitor) × (t : MemberType) × (o ≡ Some x) × (slice_get x.members n ≡ Some t) × (i < member_words t)
variable_there None n i h = absurd h
variable_there (Some x) n i h = let k = by_type (slice_get x.members n) h in (x, k.0, refl, k.1, k.2)
  where
    by_type : (o : Option MemberType) → HasIndex o i → (t : MemberType) × (o ≡ Some t) × (i < member_words t)
    by_type None h = absurd h
    by_type (Some (Variable t)) h = (Variable t, refl, omega (arith, h))
    by_type (Some Condition) h = absurd h
    by_type (Some (Array n)) h = (Array n, refl, h)

variable_cell : (p : Program) (m : Member) (i : ℕ) → IsVariable p m i → IsCell p (OfMember m i)
variable_cell p m i h = variable_there (slice_get p.monitors m.monitor) m.number i h

pub variable_lies : (p : Program) (m : Member) (i : ℕ) → IsVariable p m i
    → variable_address p m i < memory_size (code_of p)
variable_lies p m i h = inside p (OfMember m i) (variable_cell p m i h)

pub variable_above : (p : Program) (m : Member) (i : ℕ) → IsVariable p m i → 0 < variable_address p m i
variable_above p m i h = cell_above p (OfMember m i) (variable_cell p m i h)

pub variables_apart : (p : Program) (m n : Member) (i j : ℕ) → IsVariable p m i → IsVariable p n j
    → variable_address p m i ≡ variable_address p n j → (m ≡ n) × (i ≡ j)
variables_apart p m n i j h g e =
    let same = cells_apart p (OfMember m i) (OfMember n j) (variable_cell p m i h) (variable_cell p n j g) e in
    (ap member_of same, ap offset_of same)
  where
    member_of : C.Cell → Member
    member_of (C.OfProcess t w) = m
    member_of (C.Link k) = m
    member_of (C.Lock k) = m
    member_of (OfMember k o) = k

    offset_of : C.Cell → ℕ
    offset_of (C.OfProcess t w) = i
    offset_of (C.Link k) = i
    offset_of (C.Lock k) = i
    offset_of (OfMember k o) = o

-- a variable's word is none of the protocol's
pub variable_apart : (p : Program) (m : Member) (i : ℕ) (a : Cell) → IsVariable p m i → valid p a ≡ true
    → variable_address p m i ≡ place p a → ⊥
variable_apart p m i a h g e =
    let same = cells_apart p (OfMember m i) (in_code a) (variable_cell p m i h) (is_cell p a g)
    (e ∙ sym (same_place p a)) in
    by_cell a g same
  where
    is_both : (o : Option MemberType) (i : ℕ) → HasIndex o i → is_condition o ≡ true → ⊥
    is_both None i h c = h
    is_both (Some (Variable t)) i h c = absurd cc
    is_both (Some Condition) i h c = h
    is_both (Some (Array n)) i h c = absurd cc

    by_cell : (a : Cell) → valid p a ≡ true → OfMember m i ≡ in_code a → ⊥
    by_cell (LockOf k) g e = cc
    by_cell (LinkOf k) g e = cc
    by_cell (HeadOf t) g e = cc
    by_cell (PendingOf t) g e = cc
    by_cell (IdOf t) g e = cc
    by_cell (ClaimOf t) g e = cc
    by_cell (ResultOf t) g e = cc
    by_cell (OutcomeOf t) g e = cc
    by_cell (SequenceOf c) g e =
        let there : m ≡ c = cc in
        is_both (member_type p m) i h (ap (λ (d : Member). is_condition (member_type p d)) there ∙ g)
