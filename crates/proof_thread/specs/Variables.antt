-- The variables of monitors: which there are, where they lie, and values that fit them.
use Rattle.std.specs.Prelude.{ℕ, ℤ, ◌≡◌, ◌<◌, ◌≤◌, ◌+◌, Bool, true, false, Option, Some, None}
use Rattle.words.specs.Versions.{most_of}
use Rattle.program.specs.declared.kinds.ValueType.TheVariants.{Integer}
use Rattle.program.specs.declared.kinds.MemberType.{MemberType}
use Rattle.program.specs.declared.kinds.MemberType.TheVariants.{Variable, Condition, Array}
use Rattle.program.specs.declared.kinds.Member.{Member}
use Rattle.program.specs.Trees.{Program}
use Rattle.program.specs.Scope.{member_type}
use Rattle.lowering.specs.Layout.{member_address}
use Rattle.meaning.specs.Values.{Variables}
use Rattle.proof_thread.specs.Typed.{HasValue}

-- whether a member's type is that of a condition
abbrev pub is_condition : Option MemberType → Bool
is_condition None = false
is_condition (Some (Variable t)) = false
is_condition (Some Condition) = true
is_condition (Some (Array n)) = false

-- the member has a variable of this index: 0 where it is no array; a condition has none
abbrev pub HasIndex : Option MemberType → ℕ → Type 0
HasIndex None i = ⊥
HasIndex (Some (Variable t)) i = i ≡ 0
HasIndex (Some Condition) i = ⊥
HasIndex (Some (Array n)) i = i < n

-- a variable, or an element of an array
abbrev pub IsVariable : Program → Member → ℕ → Type 0
IsVariable p m i = HasIndex (member_type p m) i

-- the address of a variable, or of an array's element i
abbrev pub variable_address : Program → Member → ℕ → ℕ
variable_address p m i = member_address p m + i

-- a value that a variable of this member can have, where there can be so many processes and so many were made
abbrev pub ValueFits : ℕ → ℕ → Option MemberType → ℤ → Type 0
ValueFits most made None z = ⊥
ValueFits most made (Some (Variable t)) z = HasValue most made t z
ValueFits most made (Some Condition) z = ⊥
ValueFits most made (Some (Array n)) z = HasValue most made Integer z

-- all variables of a monitor have values that fit them
abbrev pub VariablesFit : ℕ → Program → ℕ → Variables → Type 0
VariablesFit made p monitor v = (m : Member) (i : ℕ) → m.monitor ≡ monitor → IsVariable p m i
    → ValueFits (most_of p.version) made (member_type p m) (v monitor m.number i)

-- arrays are short, and end below the end of all addresses
abbrev pub ArraysAreLow : Program → Type 0
ArraysAreLow p = (m : Member) (n : ℕ) → member_type p m ≡ Some (Array n)
    → (n ≤ 1024) × (member_address p m + n ≤ 4294967296)

-- the same values in a monitor, where there is one
abbrev pub SameIn : Option ℕ → Variables → Variables → Type 0
SameIn own v v' = (m : ℕ) → own ≡ Some m → (n i : ℕ) → v m n i ≡ v' m n i
