-- The faults of declarations, by where they stand.
use Rattle.std.specs.Prelude.{◌⊎◌, List, Contains}
use Rattle.scanner.specs.declared.refusal.Refusal.{Refusal}
use Rattle.scanner.specs.declared.refusal.RefusalKind.TheVariants.{Redeclared, Recursion, Limit}
use Rattle.syntax.specs.Tree.{ParameterTree, LocalTree, MonitorTree, UnitTree}
use Rattle.types.specs.Names.{monitor_names, outer_names, monitor_scope, parameter_names, body_scope}
use Rattle.types.specs.Names.{all_procedure_names}
use Rattle.types.specs.Judgement.{IsRepeated, IsPast, IsPastWords, IsNoSize, IsOnCycle, UnitIsTooLong, IsInBody}
use Rattle.types.specs.Judgement.{condition_names}
use Rattle.types.specs.Limits.{most_monitors, most_conditions, most_procedures, most_parameters, most_locals}
use Rattle.types.specs.CallFaults.{block_faults}
use Rattle.types.specs.Pieces.{Piece, pieces}
use Rattle.unit_faults.specs.Collected.{OfKind, InOne}

-- those of a piece's parameters and locals
abbrev pub InBody : List ParameterTree → List LocalTree → Refusal → Type 0
InBody ps ls e = (OfKind Redeclared (IsRepeated (body_scope ps ls)) e ⊎ OfKind Limit (IsPast most_locals
    (body_scope ps ls)) e) ⊎ OfKind Limit (IsPast most_parameters (parameter_names ps)) e

-- in a piece: of its parameters and locals
abbrev pub InPiece : Piece → Refusal → Type 0
InPiece q e = InBody q.parameters q.body.locals e

-- those of the names of a monitor's members and procedures
abbrev pub InScope : MonitorTree → Refusal → Type 0
InScope t e = OfKind Redeclared (IsRepeated (monitor_scope t)) e

-- those of the numbers of monitors and procedures
abbrev pub InCounts : UnitTree → Refusal → Type 0
InCounts u e = OfKind Limit (IsPast most_monitors (monitor_names u)) e
    ⊎ OfKind Limit (IsPast most_procedures (all_procedure_names u)) e

-- those of conditions, words and arrays
abbrev pub InMembers : UnitTree → Refusal → Type 0
InMembers u e = (OfKind Limit (IsPast most_conditions (condition_names u)) e ⊎ OfKind Limit (IsPastWords u) e)
    ⊎ OfKind Limit (IsNoSize u) e

-- those of a unit but for its pieces
abbrev pub InOuter : UnitTree → Refusal → Type 0
InOuter u e = ((OfKind Redeclared (IsRepeated (outer_names u)) e ⊎ InOne InScope u.monitors e) ⊎ InCounts u e)
    ⊎ InMembers u e

-- those of calls: of cycles, and of chains that are too long
abbrev pub InCalls : UnitTree → Refusal → Type 0
InCalls u e = OfKind Recursion (IsOnCycle u) e ⊎ OfKind Limit (UnitIsTooLong u) e

-- those of a piece's statements
abbrev pub InStatements : UnitTree → Piece → Refusal → Type 0
InStatements u q e = Contains (block_faults (record { unit = u; piece = q }) q.body.statements) e

-- those of a unit
abbrev pub InUnit : UnitTree → Refusal → Type 0
InUnit u e = ((InOuter u e ⊎ InOne InPiece (pieces u) e) ⊎ InCalls u e) ⊎ IsInBody u e
