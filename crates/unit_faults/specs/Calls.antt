-- The faults of the names of callees.
use Rattle.std.specs.Prelude.{List, ◌++◌, Bool, ◌&&◌, is_some, is_none}
use Rattle.scanner.specs.declared.refusal.Refusal.{Refusal}
use Rattle.scanner.specs.declared.refusal.RefusalKind.TheVariants.{WrongPlace, DirectReentry, TypeMismatch}
use Rattle.syntax.specs.Tree.{CalleeTree}
use Rattle.types.specs.Faults.{where_true}
use Rattle.types.specs.Pieces.{Piece}
use Rattle.types.specs.Scope.{Scope}
use Rattle.types.specs.StatementFaults.{callee_place, is_internal, own_role, count_faults}

-- those of a CALL, which takes a result or doesn't
abbrev pub call_name_faults : Scope → CalleeTree → Piece → Bool → List Refusal
call_name_faults s c q takes = where_true (is_some c.dotted && is_internal q.role) WrongPlace (callee_place c)
    ++ where_true (own_role s.piece.role q.role) DirectReentry (callee_place c)
    ++ count_faults c q ++ where_true (takes && is_none q.returns) TypeMismatch (callee_place c)

-- those of a FORK
abbrev pub fork_name_faults : CalleeTree → Piece → List Refusal
fork_name_faults c q = where_true (is_internal q.role) WrongPlace (callee_place c) ++ count_faults c q
