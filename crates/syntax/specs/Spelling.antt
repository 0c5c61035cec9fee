-- The grammar of declarations and units: what each tree is spelled as, before what follows it.
use Rattle.std.specs.Prelude.{List, [], ◌∷◌, Option, Some, None}
use Rattle.scanner.specs.declared.token.Keyword.TheVariants as K
use Rattle.scanner.specs.declared.token.Sign.TheVariants as S
use Rattle.syntax.specs.declared.declaration.LocalType.{LocalType}
use Rattle.syntax.specs.declared.declaration.LocalType.TheVariants as L
use Rattle.syntax.specs.declared.declaration.MemberType.{MemberType}
use Rattle.syntax.specs.declared.declaration.MemberType.TheVariants as M
use Rattle.syntax.specs.declared.declaration.ResultType.{ResultType}
use Rattle.syntax.specs.declared.declaration.ResultType.TheVariants as R
use Rattle.syntax.specs.declared.declaration.Access.{Access}
use Rattle.syntax.specs.declared.declaration.Access.TheVariants as A
use Rattle.syntax.specs.Lexeme.{Lexeme, Word, WordAt, Mark, MarkAt, Named, Numbered, Finish}
use Rattle.syntax.specs.Tree.{LocalTree, ParameterTree, MemberTree, BodyTree, ProcedureTree, MonitorProcedureTree}
use Rattle.syntax.specs.Tree.{RecoverTree, MonitorTree, UnitTree}
pub use Rattle.syntax.specs.ExpressionSpelling.{bool_lexeme, comparator_text, sum_sign, product_sign, truth_text}
pub use Rattle.syntax.specs.ExpressionSpelling.{expression_text, conjunctions_text, conjunction_text, relations_text}
pub use Rattle.syntax.specs.ExpressionSpelling.{relation_text, comparison_text, sum_text, summands_text, term_text}
pub use Rattle.syntax.specs.ExpressionSpelling.{multipliers_text, factor_text, index_text, more_arguments_text}
pub use Rattle.syntax.specs.ExpressionSpelling.{arguments_text, dotted_text, callee_text, into_text, value_text}
pub use Rattle.syntax.specs.StatementSpelling.{statement_text, statements_text, else_text, aborted_text}

-- the type of a local variable or a parameter
abbrev pub local_type_text : LocalType → Lexeme
local_type_text L.Integer = Word K.Integer
local_type_text L.Boolean = Word K.Boolean
local_type_text L.Process = Word K.Process

-- the type of a result
abbrev pub result_type_text : ResultType → Lexeme
result_type_text R.Integer = Word K.Integer
result_type_text R.Boolean = Word K.Boolean

-- the type of a member
abbrev pub member_type_text : MemberType → List Lexeme → List Lexeme
member_type_text M.Integer ks = Word K.Integer ∷ ks
member_type_text M.Boolean ks = Word K.Boolean ∷ ks
member_type_text M.Process ks = Word K.Process ∷ ks
member_type_text M.Condition ks = Word K.Condition ∷ ks
member_type_text (M.Array n) ks = Word K.Array ∷ Numbered n ∷ Word K.Of ∷ Word K.Integer ∷ ks

-- local variables
abbrev pub locals_text : List LocalTree → List Lexeme → List Lexeme
locals_text [] ks = ks
locals_text (l ∷ ls) ks = WordAt K.Var l.place ∷ Named l.name ∷ Mark S.Colon ∷ local_type_text l.kind
    ∷ Mark S.Semicolon ∷ locals_text ls ks

-- members
abbrev pub members_text : List MemberTree → List Lexeme → List Lexeme
members_text [] ks = ks
members_text (m ∷ ms) ks = WordAt K.Var m.place ∷ Named m.name ∷ Mark S.Colon ∷ member_type_text m.kind
    (Mark S.Semicolon ∷ members_text ms ks)

-- further parameters, and then the parameters of a procedure
abbrev pub more_parameters_text : List ParameterTree → List Lexeme → List Lexeme
more_parameters_text [] ks = ks
more_parameters_text (p ∷ ps) ks = Mark S.Comma ∷ Named p.name ∷ Mark S.Colon ∷ local_type_text
    p.kind ∷ more_parameters_text ps ks

-- parameters, with commas between them
abbrev pub parameters_text : List ParameterTree → List Lexeme → List Lexeme
parameters_text [] ks = ks
parameters_text (p ∷ ps) ks = Named p.name ∷ Mark S.Colon ∷ local_type_text p.kind ∷ more_parameters_text ps ks

-- a colon and the type of a result, where there is one
abbrev pub returns_text : Option ResultType → List Lexeme → List Lexeme
returns_text None ks = ks
returns_text (Some t) ks = Mark S.Colon ∷ result_type_text t ∷ ks

-- local variables, statements, and END
abbrev pub body_text : BodyTree → List Lexeme → List Lexeme
body_text b ks = locals_text b.locals (statements_text b.statements (Word K.End ∷ ks))

-- a procedure
abbrev pub procedure_text : ProcedureTree → List Lexeme → List Lexeme
procedure_text p ks =
    WordAt K.Procedure p.place ∷ Named p.name ∷ MarkAt S.OpenParen p.open_place ∷ parameters_text p.parameters
    (Mark S.CloseParen ∷ returns_text p.returns (Mark S.Semicolon ∷ body_text p.body (Mark S.Semicolon ∷ ks)))

-- procedures
abbrev pub procedures_text : List ProcedureTree → List Lexeme → List Lexeme
procedures_text [] ks = ks
procedures_text (p ∷ ps) ks = procedure_text p (procedures_text ps ks)

-- ENTRY or INTERNAL
abbrev pub access_text : Access → Lexeme
access_text A.Entry = Word K.Entry
access_text A.Internal = Word K.Internal

-- a monitor's procedures
abbrev pub monitor_procedures_text : List MonitorProcedureTree → List Lexeme → List Lexeme
monitor_procedures_text [] ks = ks
monitor_procedures_text (p ∷ ps) ks = access_text p.access ∷ procedure_text p.procedure (monitor_procedures_text ps ks)

-- a recover part, where there is one
abbrev pub recover_text : Option RecoverTree → List Lexeme → List Lexeme
recover_text None ks = ks
recover_text (Some r) ks = WordAt K.Recover r.place ∷ body_text r.body (Mark S.Semicolon ∷ ks)

-- monitors
abbrev pub monitors_text : List MonitorTree → List Lexeme → List Lexeme
monitors_text [] ks = ks
monitors_text (m ∷ ms) ks =
    WordAt K.Monitor m.place ∷ Named m.name ∷ Mark S.Semicolon ∷ members_text m.members
    (monitor_procedures_text m.procedures
    (recover_text m.recover (Word K.End ∷ Mark S.Semicolon ∷ monitors_text ms ks)))

-- a unit, up to the end of its text
abbrev pub unit_text : UnitTree → List Lexeme
unit_text u =
    Word K.Program ∷ Named u.name ∷ Mark S.Semicolon ∷ monitors_text u.monitors
    (procedures_text u.procedures (WordAt K.Main u.place ∷ body_text u.body (Mark S.Dot ∷ Finish ∷ [])))
