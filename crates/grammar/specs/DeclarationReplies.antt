-- What is expected of declarations, at each lexeme.
use Rattle.std.specs.Prelude.{List, [], ◌∷◌, Option, Some, None}
use Rattle.scanner.specs.declared.token.Keyword.TheVariants as K
use Rattle.scanner.specs.declared.token.Sign.TheVariants as S
use Rattle.scanner.specs.declared.token.Place.{Place}
use Rattle.syntax.specs.declared.declaration.LocalType.{LocalType}
use Rattle.syntax.specs.declared.declaration.LocalType.TheVariants as L
use Rattle.syntax.specs.declared.declaration.MemberType.{MemberType}
use Rattle.syntax.specs.declared.declaration.MemberType.TheVariants as M
use Rattle.syntax.specs.declared.declaration.ResultType.{ResultType}
use Rattle.syntax.specs.declared.declaration.ResultType.TheVariants as R
use Rattle.syntax.specs.declared.declaration.Access.{Access}
use Rattle.syntax.specs.declared.declaration.Access.TheVariants as A
use Rattle.syntax.specs.Lexeme.{NameTree, Lexeme, Word, WordAt, Mark, Named}
use Rattle.syntax.specs.Tree.{StatementTrees, LocalTree, ParameterTree, MemberTree, ProcedureTree}
use Rattle.syntax.specs.Tree.{MonitorProcedureTree, RecoverTree, MonitorTree}
use Rattle.grammar.specs.Symbols.{Symbol, AWord, AMark, AWordAt, AnOpening, AName, ANumber, Statements, ALocalType}
use Rattle.grammar.specs.Symbols.{AMemberType, AResultType, AReturns, Locals, Members, Parameters, MoreParameters}
use Rattle.grammar.specs.Symbols.{Procedures, MonitorProcedures, ARecover, Monitors, Reply, Push, Skip, Reject}

-- the type of a local variable or a parameter
abbrev pub reply_local_type : Lexeme → Reply LocalType
reply_local_type (Word K.Integer) = Push [] (λ _. L.Integer)
reply_local_type (Word K.Boolean) = Push [] (λ _. L.Boolean)
reply_local_type (Word K.Process) = Push [] (λ _. L.Process)
reply_local_type _ = Reject

-- the type of a member
abbrev pub reply_member_type : Lexeme → Reply MemberType
reply_member_type (Word K.Integer) = Push [] (λ _. M.Integer)
reply_member_type (Word K.Boolean) = Push [] (λ _. M.Boolean)
reply_member_type (Word K.Process) = Push [] (λ _. M.Process)
reply_member_type (Word K.Condition) = Push [] (λ _. M.Condition)
reply_member_type (Word K.Array) = Push (ANumber ∷ AWord K.Of ∷ AWord K.Integer ∷ []) (λ t. M.Array t.0)
reply_member_type _ = Reject

-- the type of a result
abbrev pub reply_result_type : Lexeme → Reply ResultType
reply_result_type (Word K.Integer) = Push [] (λ _. R.Integer)
reply_result_type (Word K.Boolean) = Push [] (λ _. R.Boolean)
reply_result_type _ = Reject

-- a colon and the type of a result, if there is a colon
abbrev pub reply_returns : Lexeme → Reply (Option ResultType)
reply_returns (Mark S.Colon) = Push (AResultType ∷ []) (λ t. Some t.0)
reply_returns _ = Skip None

-- local variables
abbrev pub reply_locals : Lexeme → Reply (List LocalTree)
reply_locals (WordAt K.Var place) =
    Push (AName ∷ AMark S.Colon ∷ ALocalType ∷ AMark S.Semicolon ∷ Locals ∷ [])
    (λ t. record { place = place; name = t.0; kind = t.1.1.0 } ∷ t.1.1.1.1.0)
reply_locals _ = Skip []

-- members
abbrev pub reply_members : Lexeme → Reply (List MemberTree)
reply_members (WordAt K.Var place) =
    Push (AName ∷ AMark S.Colon ∷ AMemberType ∷ AMark S.Semicolon ∷ Members ∷ [])
    (λ t. record { place = place; name = t.0; kind = t.1.1.0 } ∷ t.1.1.1.1.0)
reply_members _ = Skip []

-- parameters
abbrev pub reply_parameters : Lexeme → Reply (List ParameterTree)
reply_parameters (Named name) = Push (AMark S.Colon ∷ ALocalType ∷ MoreParameters ∷ [])
    (λ t. record { name = name; kind = t.1.0 } ∷ t.1.1.0)
reply_parameters _ = Skip []

-- further parameters
abbrev pub reply_more_parameters : Lexeme → Reply (List ParameterTree)
reply_more_parameters (Mark S.Comma) = Push (AName ∷ AMark S.Colon ∷ ALocalType ∷ MoreParameters ∷ [])
    (λ t. record { name = t.0; kind = t.1.1.0 } ∷ t.1.1.1.0)
reply_more_parameters _ = Skip []

-- a procedure without the word PROCEDURE, before other symbols
abbrev pub procedure : List Symbol → List Symbol
procedure σ = AName ∷ AnOpening ∷ Parameters ∷ AMark S.CloseParen ∷ AReturns ∷ AMark S.Semicolon ∷ Locals
    ∷ Statements ∷ AWord K.End ∷ AMark S.Semicolon ∷ σ

-- what a procedure is made of, with what is behind it
abbrev pub Proceeds : Type 0 → Type 0
Proceeds A =
    NameTree × (Place × (List ParameterTree ×
    (Unit {0} × (Option ResultType × (Unit {0} × (List LocalTree × (StatementTrees × (Unit {0} × (Unit {0} × A)))))))))

-- the procedure there
abbrev pub procedure_in : {A : Type 0} → Place → Proceeds A → ProcedureTree
procedure_in place t = record {
  place = place;
  name = t.0;
  open_place = t.1.0;
  parameters = t.1.1.0;
  returns =
      t.1.1.1.1.0;
  body = record { locals = t.1.1.1.1.1.1.0; statements = t.1.1.1.1.1.1.1.0 };
}

-- what is behind it
abbrev pub behind_procedure : {A : Type 0} → Proceeds A → A
behind_procedure t = t.1.1.1.1.1.1.1.1.1.1

-- procedures
abbrev pub reply_procedures : Lexeme → Reply (List ProcedureTree)
reply_procedures (WordAt K.Procedure place) =
    Push (procedure (Procedures ∷ [])) (λ t. procedure_in place t ∷ (behind_procedure t).0)
reply_procedures _ = Skip []

-- a monitor's procedure of this access
abbrev pub of_access : Access → Reply (List MonitorProcedureTree)
of_access access =
    Push (AWordAt K.Procedure ∷ procedure (MonitorProcedures ∷ []))
    (λ t. record { access = access; procedure = procedure_in t.0 t.1 } ∷ (behind_procedure t.1).0)

-- a monitor's procedures
abbrev pub reply_monitor_procedures : Lexeme → Reply (List MonitorProcedureTree)
reply_monitor_procedures (Word K.Entry) = of_access A.Entry
reply_monitor_procedures (Word K.Internal) = of_access A.Internal
reply_monitor_procedures _ = Skip []

-- a recover part, if there is one
abbrev pub reply_recover : Lexeme → Reply (Option RecoverTree)
reply_recover (WordAt K.Recover place) =
    Push (Locals ∷ Statements ∷ AWord K.End ∷ AMark S.Semicolon ∷ [])
    (λ t. Some (record { place = place; body = record { locals = t.0; statements = t.1.0 } }))
reply_recover _ = Skip None

-- monitors
abbrev pub reply_monitors : Lexeme → Reply (List MonitorTree)
reply_monitors (WordAt K.Monitor place) =
    Push (AName ∷ AMark S.Semicolon ∷ Members ∷ MonitorProcedures ∷ ARecover ∷ AWord K.End
    ∷ AMark S.Semicolon ∷ Monitors ∷ [])
    (λ t. record { place = place; name = t.0; members = t.1.1.0; procedures = t.1.1.1.0; recover = t.1.1.1.1.0 } ∷
    t.1.1.1.1.1.1.1.0)
reply_monitors _ = Skip []
