-- The types that declarations name.
use Rattle.std.specs.Prelude.{List, ◌++◌, map}
use Rattle.program.specs.declared.kinds.ValueType.{ValueType}
use Rattle.program.specs.declared.kinds.ValueType.TheVariants as V
use Rattle.program.specs.declared.kinds.MemberType.{MemberType}
use Rattle.program.specs.declared.kinds.MemberType.TheVariants.{Variable, Condition, Array}
use Rattle.syntax.specs.declared.declaration.LocalType.{LocalType}
use Rattle.syntax.specs.declared.declaration.LocalType.TheVariants as L
use Rattle.syntax.specs.declared.declaration.ResultType.{ResultType}
use Rattle.syntax.specs.declared.declaration.ResultType.TheVariants as R
use Rattle.syntax.specs.declared.declaration.MemberType.{MemberType as MemberKind}
use Rattle.syntax.specs.declared.declaration.MemberType.TheVariants as M
use Rattle.syntax.specs.Tree.{ParameterTree, LocalTree, MemberTree}

-- the type of a local variable or a parameter
abbrev pub local_kind : LocalType → ValueType
local_kind L.Integer = V.Integer
local_kind L.Boolean = V.Boolean
local_kind L.Process = V.Process

-- the type of a result
abbrev pub result_kind : ResultType → ValueType
result_kind R.Integer = V.Integer
result_kind R.Boolean = V.Boolean

-- the type of a monitor's member
abbrev pub member_kind : MemberKind → MemberType
member_kind M.Integer = Variable V.Integer
member_kind M.Boolean = Variable V.Boolean
member_kind M.Process = Variable V.Process
member_kind M.Condition = Condition
member_kind (M.Array n) = Array n.value

-- the types of parameters, in their order
abbrev pub parameter_kinds : List ParameterTree → List ValueType
parameter_kinds ps = map (λ p. local_kind p.kind) ps

-- the types of local variables, in their order
abbrev pub locals_kinds : List LocalTree → List ValueType
locals_kinds ls = map (λ l. local_kind l.kind) ls

-- the types of parameters and locals, by their numbers
abbrev pub slot_kinds : List ParameterTree → List LocalTree → List ValueType
slot_kinds ps ls = parameter_kinds ps ++ locals_kinds ls

-- the types of members, by their numbers
abbrev pub member_kinds : List MemberTree → List MemberType
member_kinds ms = map (λ x. member_kind x.kind) ms
