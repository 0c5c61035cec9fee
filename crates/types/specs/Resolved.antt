-- The program that a unit is resolved to. A name that means nothing is read as some thing of number 0.
use Rattle.std.specs.Prelude.{ℕ, ◌+◌, List, [], ◌∷◌, Option, Some, None, map, option_map, length}
use Rattle.words.specs.declared.version.ImageVersion.TheVariants.{Two}
use Rattle.program.specs.Trees.{Monitor, Procedure, Program}
use Rattle.program.specs.Names.{Naming}
use Rattle.syntax.specs.Tree.{RecoverTree, MonitorTree, UnitTree}
use Rattle.types.specs.Kinds.{member_kind, parameter_kinds, locals_kinds, result_kind}
use Rattle.types.specs.Pieces.{Piece, pieces, first_piece}
use Rattle.types.specs.Statements.{block}

-- the piece of a RECOVER part stands behind those of its monitor's procedures
abbrev pub recover_piece : UnitTree → ℕ → MonitorTree → Option RecoverTree → Option ℕ
recover_piece u m t None = None
recover_piece u m t (Some r) = Some (first_piece u m + length t.procedures)

-- monitor m, as it is resolved
abbrev pub monitor : UnitTree → ℕ → MonitorTree → Monitor
monitor u m t = record {
  members = map (λ x. member_kind x.kind) t.members;
  recover = recover_piece u m t t.recover;
}

-- monitors, the first of which has this number
abbrev pub monitors_from : UnitTree → ℕ → List MonitorTree → List Monitor
monitors_from u m [] = []
monitors_from u m (t ∷ ts) = monitor u m t ∷ monitors_from u (m + 1) ts

-- a piece, as it is resolved
abbrev pub procedure : UnitTree → Piece → Procedure
procedure u q = record {
  role = q.role;
  parameters = parameter_kinds q.parameters;
  locals = locals_kinds q.body.locals;
  result = option_map result_kind q.returns;
  body = block (record { unit = u; piece = q }) q.body.statements;
}

-- the program of a unit, whose image has the second version
abbrev pub resolved : UnitTree → Program
resolved u = record {
  version = Two;
  monitors = monitors_from u 0 u.monitors;
  procedures = map (procedure u) (pieces u);
}

-- what the things of a unit are called
abbrev pub naming : UnitTree → Naming
naming u = record {
  monitors = map (λ m. record { name = m.name.text; members = map (λ x. x.name.text) m.members }) u.monitors;
}
