-- What the tables of a piece's names say of where it stands.
use Rattle.std.specs.Prelude.{ℕ, ◌≡◌, List, Option, Some, None, slice_get}
use Rattle.program.specs.Scope.{own_monitor}
use Rattle.syntax.specs.Lexeme.{NameTree}
use Rattle.syntax.specs.Tree.{MemberTree, MonitorTree, ParameterTree, LocalTree}
use Rattle.types.specs.declared.standing.Members.{Members}
use Rattle.types.specs.declared.standing.Own.{Own}
use Rattle.types.specs.declared.standing.NameScope.{NameScope}
use Rattle.types.specs.declared.standing.Meaning.{Meaning as MeaningOf}
use Rattle.types.specs.declared.standing.Meaning.TheVariants.{Nothing as Nothing', Local, Member}
use Rattle.types.specs.Names.{names_of_members, body_scope}
use Rattle.types.specs.Kinds.{member_kinds, slot_kinds}
use Rattle.types.specs.Tables.{IsTable}
use Rattle.types.specs.Scope.{Scope, Meaning, Nothing, ALocal, AMember, member_meaning, kind_in, member_number}

-- what a meaning in code says
abbrev pub meaning_of : MeaningOf → Meaning
meaning_of Nothing' = Nothing
meaning_of (Local slot kind) = ALocal slot kind
meaning_of (Member member kind) = AMember member kind

-- the names and types of members
abbrev pub HasMembers : List MemberTree → Members → Type 0
HasMembers ms m = IsTable (names_of_members ms) m.names × (m.kinds.items ≡ member_kinds ms)

-- those of a monitor
abbrev pub IsMembers : MonitorTree → Members → Type 0
IsMembers t m = HasMembers t.members m

-- what a name means among the members of a monitor of this number
abbrev pub member_of_number : ℕ → MonitorTree → Option ℕ → Meaning
member_of_number m t None = Nothing
member_of_number m t (Some i) = member_meaning m i (kind_in (Some t) i)

-- what a name means as a member of this monitor, which has the number m
abbrev pub member_in : ℕ → MonitorTree → NameTree → Meaning
member_in m t name = member_of_number m t (member_number (Some t) name)

-- the own monitor of a piece, none outside of monitors
abbrev pub IsOwn : Scope → Option Own → Type 0
IsOwn s None = own_monitor s.piece.role ≡ None
IsOwn s (Some own) = (own_monitor s.piece.role ≡ Some own.monitor) × (t : MonitorTree)
    × (slice_get s.unit.monitors own.monitor ≡ Some t) × IsMembers t own.members.now

-- the names and types of a piece's parameters and locals
abbrev pub IsLocals : List ParameterTree → List LocalTree → NameScope → Type 0
IsLocals ps ls st = IsTable (body_scope ps ls) st.locals × (st.kinds.items ≡ slot_kinds ps ls)

-- these tables are those of the scope: of its locals, and of the monitor around it
abbrev pub IsNameScope : Scope → NameScope → Type 0
IsNameScope s st = IsLocals s.piece.parameters s.piece.body.locals st × IsOwn s st.own
