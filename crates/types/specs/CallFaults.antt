-- The faults of CALL and FORK, and of the other statements; and what a body calls.
use Rattle.std.specs.Prelude.{ℕ, List, [], ◌++◌, Option, Some, None, not, is_some}
use Rattle.std.specs.Prelude.{is_none, ◌&&◌}
use Rattle.std.specs.Prelude.{option_map, option_to_list}
use Rattle.scanner.specs.declared.token.Place.{Place}
use Rattle.scanner.specs.declared.refusal.Refusal.{Refusal}
use Rattle.scanner.specs.declared.refusal.RefusalKind.TheVariants.{TypeMismatch, WrongPlace, DirectReentry}
use Rattle.program.specs.declared.kinds.ValueType.{ValueType}
use Rattle.program.specs.declared.kinds.ValueType.TheVariants.{Integer, Boolean, Process}
use Rattle.program.specs.declared.kinds.MemberType.{MemberType}
use Rattle.program.specs.declared.kinds.MemberType.TheVariants.{Variable, Condition, Array}
use Rattle.syntax.specs.Lexeme.{NameTree}
use Rattle.syntax.specs.Tree.{ExpressionTree, CalleeTree, StatementTree, Assign, If, While, Call, Fork, Join, Return}
use Rattle.syntax.specs.Tree.{Wait, Notify, Broadcast, Print, Abort, StatementTrees, NoStatements, Then, PartTree}
use Rattle.syntax.specs.Tree.{NoPart, Part}
use Rattle.types.specs.Kinds.{result_kind}
use Rattle.types.specs.Pieces.{Piece}
use Rattle.types.specs.Scope.{Scope, Meaning, Nothing, ALocal, AMember, meaning, callee}
use Rattle.types.specs.Faults.{where_true, unknown, mismatch}
use Rattle.types.specs.ExpressionFaults.{expression_faults}
use Rattle.types.specs.StatementFaults.{typed_faults, value_faults, target_faults, target_type, taker_faults}
use Rattle.types.specs.StatementFaults.{into_faults}
use Rattle.types.specs.StatementFaults.{callee_place, called_piece, missing_place, own_role, is_internal, is_recover}
use Rattle.types.specs.StatementFaults.{has_monitor, matched_faults, arguments_faults, count_faults}

-- a CALL of a procedure: an INTERNAL one behind a dot, an ENTRY one of the own monitor, INTO without a result
abbrev pub call_faults : Scope → CalleeTree → Option NameTree → Option Piece → List Refusal
call_faults s c into None = unknown (missing_place s c.name c.dotted) ++ arguments_faults s c.arguments
    ++ into_faults s None into
call_faults s c into (Some q) = where_true (is_some c.dotted && is_internal q.role) WrongPlace (callee_place c)
    ++ where_true (own_role s.piece.role q.role) DirectReentry (callee_place c)
    ++ count_faults c q ++ where_true (is_some into && is_none q.returns) TypeMismatch (callee_place c)
    ++ arguments_faults s c.arguments ++ matched_faults s c.arguments q.parameters
    ++ into_faults s (option_map result_kind q.returns) into

-- a FORK of a procedure: no INTERNAL one; the local that takes the new process is a PROCESS
abbrev pub fork_faults : Scope → CalleeTree → NameTree → Option Piece → List Refusal
fork_faults s c into None = unknown (missing_place s c.name c.dotted) ++ arguments_faults s c.arguments
    ++ taker_faults s (Some Process) into
fork_faults s c into (Some q) = where_true (is_internal q.role) WrongPlace (callee_place c) ++ count_faults c q
    ++ arguments_faults s c.arguments ++ matched_faults s c.arguments q.parameters ++ taker_faults s
    (Some Process) into

-- a RETURN has an expression of the result's type exactly where there is a result
abbrev pub return_faults : Scope → Place → Option ValueType → Option ExpressionTree → List Refusal
return_faults s place None None = []
return_faults s place None (Some e) = mismatch place ++ expression_faults s e
return_faults s place (Some t) None = mismatch place
return_faults s place (Some t) (Some e) = typed_faults s t e

-- a member that WAIT, NOTIFY or BROADCAST names has to be a condition
abbrev pub member_condition : MemberType → Place → List Refusal
member_condition Condition place = []
member_condition (Variable t) place = mismatch place
member_condition (Array n) place = mismatch place

-- a name that isn't a CONDITION
abbrev pub condition_faults : Meaning → Place → List Refusal
condition_faults Nothing place = unknown place
condition_faults (ALocal slot t) place = mismatch place
condition_faults (AMember member kind) place = member_condition kind place

-- WAIT, FORK, JOIN, CALL and RETURN in RECOVER; WAIT, NOTIFY and BROADCAST outside a monitor
abbrev pub recover_faults : Scope → Place → List Refusal
recover_faults s place = where_true (is_recover s.piece.role) WrongPlace place

-- WAIT, NOTIFY and BROADCAST stand in monitors alone
abbrev pub outside_faults : Scope → Place → List Refusal
outside_faults s place = where_true (not (has_monitor s.piece.role)) WrongPlace place

abbrev mutual
  pub statement_faults : Scope → StatementTree → List Refusal
  statement_faults s (Assign v e) = target_faults s v ++ value_faults s (target_type s v) e
  statement_faults s (If place e ss rest) = typed_faults s Boolean e ++ block_faults s ss ++ part_faults s rest
  statement_faults s (While place e ss) = typed_faults s Boolean e ++ block_faults s ss
  statement_faults s (Call place c into) = recover_faults s place ++ call_faults s c into (called_piece s c)
  statement_faults s (Fork place c into) = recover_faults s place ++ fork_faults s c into (called_piece s c)
  statement_faults s (Join place e into rest) = recover_faults s place ++ typed_faults s Process e
      ++ into_faults s (Some Integer) into ++ part_faults s rest
  statement_faults s (Return place e) = recover_faults s place
      ++ return_faults s place (option_map result_kind s.piece.returns) e
  statement_faults s (Wait place name) = recover_faults s place ++ outside_faults s place
      ++ condition_faults (meaning s name) name.place
  statement_faults s (Notify place name) = outside_faults s place ++ condition_faults (meaning s name) name.place
  statement_faults s (Broadcast place name) = outside_faults s place ++ condition_faults (meaning s name) name.place
  statement_faults s (Print place e) = typed_faults s Integer e
  statement_faults s (Abort place) = []

  pub block_faults : Scope → StatementTrees → List Refusal
  block_faults s NoStatements = []
  block_faults s (Then first rest) = statement_faults s first ++ block_faults s rest

  pub part_faults : Scope → PartTree → List Refusal
  part_faults s NoPart = []
  part_faults s (Part ss) = block_faults s ss

abbrev mutual
  -- the pieces that statements call, whatever else is wrong with a CALL; a FORK is no call
  pub calls : Scope → StatementTree → List ℕ
  calls s (Assign v e) = []
  calls s (If place e ss rest) = block_calls s ss ++ part_calls s rest
  calls s (While place e ss) = block_calls s ss
  calls s (Call place c into) = option_to_list (callee s c)
  calls s (Fork place c into) = []
  calls s (Join place e into rest) = part_calls s rest
  calls s (Return place e) = []
  calls s (Wait place name) = []
  calls s (Notify place name) = []
  calls s (Broadcast place name) = []
  calls s (Print place e) = []
  calls s (Abort place) = []

  pub block_calls : Scope → StatementTrees → List ℕ
  block_calls s NoStatements = []
  block_calls s (Then first rest) = calls s first ++ block_calls s rest

  pub part_calls : Scope → PartTree → List ℕ
  part_calls s NoPart = []
  part_calls s (Part ss) = block_calls s ss
