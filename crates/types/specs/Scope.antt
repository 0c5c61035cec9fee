-- Where a name stands, and what it means there.
use Rattle.std.specs.Prelude.{ℕ, ◌+◌, Option, Some, None, slice_get, option_map, option_and_then}
use Rattle.program.specs.declared.kinds.ValueType.{ValueType}
use Rattle.program.specs.declared.kinds.MemberType.{MemberType}
use Rattle.program.specs.declared.kinds.Member.{Member as MemberOf}
use Rattle.program.specs.Scope.{own_monitor}
use Rattle.syntax.specs.Lexeme.{NameTree}
use Rattle.syntax.specs.Tree.{MonitorTree, UnitTree, CalleeTree}
use Rattle.types.specs.Names.{number_in, monitor_names, external_names, member_names, procedure_names, body_scope}
use Rattle.types.specs.Kinds.{member_kind, slot_kinds}
use Rattle.types.specs.Pieces.{Piece, first_piece, first_external}

-- a unit, and the piece of it that is looked at
pub record Scope : Type 0 where
  pub unit : UnitTree
  pub piece : Piece

-- what a variable's name means
pub data Meaning : Type 0 where
  -- nothing
  Nothing : Meaning
  -- a parameter or a local
  ALocal : (slot : ℕ) (kind : ValueType) → Meaning
  -- a member of the own monitor
  AMember : (member : MemberOf) (kind : MemberType) → Meaning

-- the number of a parameter or a local variable by its name
abbrev pub local_number : Scope → NameTree → Option ℕ
local_number s name = number_in (body_scope s.piece.parameters s.piece.body.locals) name

-- the type of a parameter or local of this number
abbrev pub slot_kind : Scope → ℕ → Option ValueType
slot_kind s slot = slice_get (slot_kinds s.piece.parameters s.piece.body.locals) slot

-- a member of the monitor of this number
abbrev pub member_meaning : ℕ → ℕ → Option MemberType → Meaning
member_meaning m i None = Nothing
member_meaning m i (Some kind) = AMember (record { monitor = m; number = i }) kind

-- the type of member i of a monitor, where there are both
abbrev pub kind_in : Option MonitorTree → ℕ → Option MemberType
kind_in None i = None
kind_in (Some t) i = option_map (λ x. member_kind x.kind) (slice_get t.members i)

-- the number of a monitor's member by its name
abbrev pub member_number : Option MonitorTree → NameTree → Option ℕ
member_number None name = None
member_number (Some t) name = number_in (member_names t) name

-- what a name means that is member i of monitor m, if it is one
abbrev pub numbered_member : Scope → ℕ → Option ℕ → Meaning
numbered_member s m None = Nothing
numbered_member s m (Some i) = member_meaning m i (kind_in (slice_get s.unit.monitors m) i)

-- what a name means as a member of the monitor around it, if there is one
abbrev pub meaning_in : Scope → Option ℕ → NameTree → Meaning
meaning_in s None name = Nothing
meaning_in s (Some m) name = numbered_member s m (member_number (slice_get s.unit.monitors m) name)

-- what a name means that stands for a local of this type
abbrev pub local_meaning : ℕ → Option ValueType → Meaning
local_meaning slot None = Nothing
local_meaning slot (Some kind) = ALocal slot kind

-- a local first, then a member of the own monitor
abbrev pub first_meaning : Scope → Option ℕ → NameTree → Meaning
first_meaning s (Some slot) name = local_meaning slot (slot_kind s slot)
first_meaning s None name = meaning_in s (own_monitor s.piece.role) name

-- a variable is sought among the locals, then among the members of the own monitor
abbrev pub meaning : Scope → NameTree → Meaning
meaning s name = first_meaning s (local_number s name) name

-- a name means the first declaration of its scope: a procedure isn't found by a name that was declared before it as
-- something else
abbrev pub unless_declared : Option ℕ → Option ℕ → Option ℕ
unless_declared (Some earlier) number = None
unless_declared None number = number

-- the number, in its monitor, of the procedure with this name, unless a member has the name
abbrev pub procedure_number : Option MonitorTree → NameTree → Option ℕ
procedure_number None name = None
procedure_number (Some t) name = unless_declared (number_in (member_names t) name) (number_in
    (procedure_names t) name)

-- the piece of a procedure of the monitor of this number
abbrev pub inner_procedure : UnitTree → ℕ → NameTree → Option ℕ
inner_procedure u m name = option_map (λ i. first_piece u m + i) (procedure_number (slice_get u.monitors m) name)

-- the number of the external procedure with this name, unless a monitor has the name
abbrev pub external_procedure : UnitTree → NameTree → Option ℕ
external_procedure u name = option_map (λ i. first_external u + i)
    (unless_declared (number_in (monitor_names u) name) (number_in (external_names u) name))

-- the procedure with this name of the monitor around, if there is one
abbrev pub own_procedure : Scope → Option ℕ → NameTree → Option ℕ
own_procedure s None name = None
own_procedure s (Some m) name = inner_procedure s.unit m name

-- the first of two numbers, where it is there, else the second
abbrev pub first_found : Option ℕ → Option ℕ → Option ℕ
first_found (Some n) other = Some n
first_found None other = other

-- a callee without a dot is sought among the procedures of the own monitor, then among the external ones
abbrev pub plain_callee : Scope → NameTree → Option ℕ
plain_callee s name = first_found (own_procedure s (own_monitor s.piece.role) name) (external_procedure s.unit name)

-- one with a dot is a procedure of the monitor before it
abbrev pub dotted_callee : Scope → NameTree → NameTree → Option ℕ
dotted_callee s monitor name =
    option_and_then (λ m. inner_procedure s.unit m name) (number_in (monitor_names s.unit) monitor)

-- the number of the piece that a callee means, with a name behind a dot or without
abbrev pub callee_number : Scope → NameTree → Option NameTree → Option ℕ
callee_number s name None = plain_callee s name
callee_number s name (Some dotted) = dotted_callee s name dotted

-- the number of the piece that is called
abbrev pub callee : Scope → CalleeTree → Option ℕ
callee s c = callee_number s c.name c.dotted
