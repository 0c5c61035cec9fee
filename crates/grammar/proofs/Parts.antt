-- The spelling of a part is its own lexemes, and then what follows.
use Rattle.std.proofs.Common.{◌≡◌, List, [], ◌∷◌, ◌++◌, Option, Some, None, refl, ap, sym, ◌∙◌}
use Rattle.std.proofs.lemmas.List.{append_assoc, append-nil}
use Rattle.std.specs.List.{flat_map}
use Rattle.scanner.specs.declared.token.Keyword.TheVariants as K
use Rattle.scanner.specs.declared.token.Sign.TheVariants as S
use Rattle.syntax.specs.declared.declaration.MemberType.{MemberType}
use Rattle.syntax.specs.declared.declaration.MemberType.TheVariants as M
use Rattle.syntax.specs.declared.declaration.ResultType.{ResultType}
use Rattle.syntax.specs.Lexeme.{NameTree, Lexeme, Word, WordAt, Mark, MarkAt, Named, Numbered, Finish}
use Rattle.syntax.specs.Tree.{ExpressionTree, AnyOf, ConjunctionTrees, NoConjunctions, OrElse, ConjunctionTree, AllOf}
use Rattle.syntax.specs.Tree.{RelationTrees, NoRelations, AndAlso, RelationTree, Relates, ComparisonTree, NoComparison}
use Rattle.syntax.specs.Tree.{Compares, SumTree, Total, SummandTrees, NoSummands, Adds, TermTree, Product}
use Rattle.syntax.specs.Tree.{MultiplierTrees, NoMultipliers, Scales, FactorTree, Constant, Truthful, Reads, Group}
use Rattle.syntax.specs.Tree.{Minus, Not, IndexTree, NoIndex, At, CalleeTree, StatementTree, Assign, If, While, Call}
use Rattle.syntax.specs.Tree.{Fork, Join, Return, Wait, Notify, Broadcast, Print, Abort, StatementTrees, NoStatements}
use Rattle.syntax.specs.Tree.{Then, PartTree, NoPart, Part, LocalTree, ParameterTree, MemberTree, BodyTree}
use Rattle.syntax.specs.Tree.{ProcedureTree, MonitorProcedureTree, RecoverTree, MonitorTree, UnitTree}
use Rattle.syntax.specs.Spelling.{comparator_text, sum_sign, product_sign, truth_text, expression_text}
use Rattle.syntax.specs.Spelling.{conjunctions_text, conjunction_text, relations_text, relation_text, comparison_text}
use Rattle.syntax.specs.Spelling.{sum_text, summands_text, term_text, multipliers_text, factor_text, index_text}
use Rattle.syntax.specs.Spelling.{more_arguments_text, arguments_text, dotted_text, callee_text, into_text, value_text}
use Rattle.syntax.specs.Spelling.{statement_text, statements_text, else_text, aborted_text, local_type_text}
use Rattle.syntax.specs.Spelling.{result_type_text, member_type_text, locals_text, members_text, more_parameters_text}
use Rattle.syntax.specs.Spelling.{parameters_text, returns_text, body_text, procedure_text, procedures_text}
use Rattle.syntax.specs.Spelling.{access_text, monitor_procedures_text, recover_text, monitors_text, unit_text}
use Rattle.grammar.specs.Productions.{expression, parameter, procedure, access_procedure, local, member, monitor}

-- what is written before what follows
pub record Spells (f : List Lexeme → List Lexeme) (text : List Lexeme) : Type 0 where
  pub before : (ks : List Lexeme) → f ks ≡ text ++ ks

pub nothing : Spells (λ ks. ks) []
nothing = record { before = λ ks. refl }

-- a lexeme, and then a part
pub lead : {f : List Lexeme → List Lexeme} {a : List Lexeme} (k : Lexeme) → Spells f a
    → Spells (λ ks. k ∷ f ks) (k ∷ a)
lead k s = record { before = λ ks. ap (λ z. k ∷ z) (s.before ks) }

pub one : (k : Lexeme) → Spells (λ ks. k ∷ ks) (k ∷ [])
one k = lead k nothing

-- a part, and then another
pub next : {f g : List Lexeme → List Lexeme} {a b : List Lexeme} → Spells f a → Spells g b
    → Spells (λ ks. f (g ks)) (a ++ b)
next {f} {g} {a} {b} s t = record {
  before = λ ks. s.before (g ks) ∙ ap (λ z. a ++ z) (t.before ks) ∙ sym
      (append_assoc a b ks);
}

-- with nothing behind it
pub alone : {f : List Lexeme → List Lexeme} {a : List Lexeme} → Spells f a → f [] ≡ a
alone {f} {a} s = s.before [] ∙ append-nil a

whole : {f : List Lexeme → List Lexeme} {a : List Lexeme} → Spells f a → Spells f (f [])
whole {f} {a} s = record { before = λ ks. s.before ks ∙ ap (λ z. z ++ ks) (sym (alone s)) }

mutual
  pub expression_is : (e : ExpressionTree) → Spells (expression_text e) (expression_text e [])
  expression_is (AnyOf c cs) = whole (next (conjunction_is c) (conjunctions_is cs))

  pub conjunctions_is : (cs : ConjunctionTrees) → Spells (conjunctions_text cs) (conjunctions_text cs [])
  conjunctions_is NoConjunctions = nothing
  conjunctions_is (OrElse c cs) = whole (lead (Word K.Or) (next (conjunction_is c) (conjunctions_is cs)))

  pub conjunction_is : (c : ConjunctionTree) → Spells (conjunction_text c) (conjunction_text c [])
  conjunction_is (AllOf r rs) = whole (next (relation_is r) (relations_is rs))

  pub relations_is : (rs : RelationTrees) → Spells (relations_text rs) (relations_text rs [])
  relations_is NoRelations = nothing
  relations_is (AndAlso r rs) = whole (lead (Word K.And) (next (relation_is r) (relations_is rs)))

  pub relation_is : (r : RelationTree) → Spells (relation_text r) (relation_text r [])
  relation_is (Relates s c) = whole (next (sum_is s) (comparison_is c))

  pub comparison_is : (c : ComparisonTree) → Spells (comparison_text c) (comparison_text c [])
  comparison_is NoComparison = nothing
  comparison_is (Compares op s) = whole (lead (comparator_text op) (sum_is s))

  pub sum_is : (s : SumTree) → Spells (sum_text s) (sum_text s [])
  sum_is (Total t ts) = whole (next (term_is t) (summands_is ts))

  pub summands_is : (ts : SummandTrees) → Spells (summands_text ts) (summands_text ts [])
  summands_is NoSummands = nothing
  summands_is (Adds op place t ts) = whole (lead (sum_sign op place) (next (term_is t) (summands_is ts)))

  pub term_is : (t : TermTree) → Spells (term_text t) (term_text t [])
  term_is (Product f fs) = whole (next (factor_is f) (multipliers_is fs))

  pub multipliers_is : (fs : MultiplierTrees) → Spells (multipliers_text fs) (multipliers_text fs [])
  multipliers_is NoMultipliers = nothing
  multipliers_is (Scales op f fs) = whole (lead (product_sign op) (next (factor_is f) (multipliers_is fs)))

  pub factor_is : (f : FactorTree) → Spells (factor_text f) (factor_text f [])
  factor_is (Constant n) = one (Numbered n)
  factor_is (Truthful t) = one (truth_text t)
  factor_is (Reads name index) = whole (lead (Named name) (index_is index))
  factor_is (Group place e) = whole (next (lead (MarkAt S.OpenParen place) (expression_is e))
      (one (Mark S.CloseParen)))
  factor_is (Minus place f) = whole (lead (MarkAt S.Minus place) (factor_is f))
  factor_is (Not place f) = whole (lead (WordAt K.Not place) (factor_is f))

  pub index_is : (i : IndexTree) → Spells (index_text i) (index_text i [])
  index_is NoIndex = nothing
  index_is (At e) = whole (next (lead (Mark S.OpenBracket) (expression_is e)) (one (Mark S.CloseBracket)))

pub more_arguments_are : (es : List ExpressionTree) → Spells (more_arguments_text es)
    (flat_map (λ e. Mark S.Comma ∷ expression e) es)
more_arguments_are [] = nothing
more_arguments_are (e ∷ es) = next (lead (Mark S.Comma) (expression_is e)) (more_arguments_are es)

pub arguments_are : (es : List ExpressionTree) → Spells (arguments_text es) (arguments_text es [])
arguments_are [] = nothing
arguments_are (e ∷ es) = whole (next (expression_is e) (more_arguments_are es))

pub dotted_is : (name : Option NameTree) → Spells (dotted_text name) (dotted_text name [])
dotted_is None = nothing
dotted_is (Some name) = lead (Mark S.Dot) (one (Named name))

pub callee_has : (c : CalleeTree) → Spells (callee_text c)
    (Named c.name ∷ dotted_text c.dotted [] ++ MarkAt S.OpenParen c.open_place ∷ arguments_text c.arguments [] ++ Mark
    S.CloseParen ∷ [])
callee_has c =
    next (next (lead (Named c.name) (dotted_is c.dotted))
    (lead (MarkAt S.OpenParen c.open_place) (arguments_are c.arguments))) (one (Mark S.CloseParen))

pub callee_is : (c : CalleeTree) → Spells (callee_text c) (callee_text c [])
callee_is c = whole (callee_has c)

pub into_is : (name : Option NameTree) → Spells (into_text name) (into_text name [])
into_is None = nothing
into_is (Some name) = lead (Word K.Into) (one (Named name))

pub value_is : (value : Option ExpressionTree) → Spells (value_text value) (value_text value [])
value_is None = nothing
value_is (Some e) = expression_is e

mutual
  pub statement_is : (s : StatementTree) → Spells (statement_text s) (statement_text s [])
  statement_is (Assign v e) =
      whole (next (next (lead (Named v.name) (index_is v.index)) (lead (Mark S.Assign) (expression_is e)))
      (one (Mark S.Semicolon)))
  statement_is (If place e ss part) =
      whole (next (next (next (lead (WordAt K.If place) (expression_is e)) (lead (Word K.Then) (statements_are ss)))
      (else_is part)) (lead (Word K.Endif) (one (Mark S.Semicolon))))
  statement_is (While place e ss) =
      whole (next (next (lead (WordAt K.While place) (expression_is e)) (lead (Word K.Do) (statements_are ss)))
      (lead (Word K.Endloop) (one (Mark S.Semicolon))))
  statement_is (Call place c into) = whole (next (next (lead (WordAt K.Call place) (callee_is c)) (into_is into))
      (one (Mark S.Semicolon)))
  statement_is (Fork place c into) = whole (next (lead (WordAt K.Fork place) (callee_is c))
      (lead (Word K.Into) (lead (Named into) (one (Mark S.Semicolon)))))
  statement_is (Join place e into part) = whole
      (next (next (next (lead (WordAt K.Join place) (expression_is e)) (into_is into)) (aborted_is part))
      (one (Mark S.Semicolon)))
  statement_is (Return place value) = whole (next (lead (WordAt K.Return place) (value_is value))
      (one (Mark S.Semicolon)))
  statement_is (Wait place name) = lead (WordAt K.Wait place) (lead (Named name) (one (Mark S.Semicolon)))
  statement_is (Notify place name) = lead (WordAt K.Notify place) (lead (Named name) (one (Mark S.Semicolon)))
  statement_is (Broadcast place name) = lead (WordAt K.Broadcast place) (lead (Named name) (one (Mark S.Semicolon)))
  statement_is (Print place e) = whole (next (lead (WordAt K.Print place) (expression_is e)) (one (Mark S.Semicolon)))
  statement_is (Abort place) = lead (WordAt K.Abort place) (one (Mark S.Semicolon))

  pub statements_are : (ss : StatementTrees) → Spells (statements_text ss) (statements_text ss [])
  statements_are NoStatements = nothing
  statements_are (Then s ss) = whole (next (statement_is s) (statements_are ss))

  pub else_is : (part : PartTree) → Spells (else_text part) (else_text part [])
  else_is NoPart = nothing
  else_is (Part ss) = whole (lead (Word K.Else) (statements_are ss))

  pub aborted_is : (part : PartTree) → Spells (aborted_text part) (aborted_text part [])
  aborted_is NoPart = nothing
  aborted_is (Part ss) = whole (next (lead (Word K.Aborted) (statements_are ss)) (one (Word K.End)))

pub member_type_is : (t : MemberType) → Spells (member_type_text t) (member_type_text t [])
member_type_is M.Integer = one (Word K.Integer)
member_type_is M.Boolean = one (Word K.Boolean)
member_type_is M.Process = one (Word K.Process)
member_type_is M.Condition = one (Word K.Condition)
member_type_is (M.Array n) = lead (Word K.Array) (lead (Numbered n) (lead (Word K.Of) (one (Word K.Integer))))

pub locals_are : (ls : List LocalTree) → Spells (locals_text ls) (flat_map local ls)
locals_are [] = nothing
locals_are (l ∷ ls) =
    next
    (lead (WordAt K.Var l.place) (lead (Named l.name)
    (lead (Mark S.Colon) (lead (local_type_text l.kind) (one (Mark S.Semicolon)))))) (locals_are ls)

pub member_has : (m : MemberTree) → Spells (members_text (m ∷ []))
    (WordAt K.Var m.place ∷ Named m.name ∷ Mark S.Colon ∷ member_type_text m.kind [] ++ Mark S.Semicolon ∷ [])
member_has m = next (lead (WordAt K.Var m.place) (lead (Named m.name) (lead (Mark S.Colon) (member_type_is m.kind))))
    (one (Mark S.Semicolon))

pub members_are : (ms : List MemberTree) → Spells (members_text ms) (flat_map member ms)
members_are [] = nothing
members_are (m ∷ ms) = next (whole (member_has m)) (members_are ms)

pub more_parameters_are : (ps : List ParameterTree) → Spells (more_parameters_text ps)
    (flat_map (λ p. Mark S.Comma ∷ parameter p) ps)
more_parameters_are [] = nothing
more_parameters_are (p ∷ ps) =
    next (lead (Mark S.Comma) (lead (Named p.name) (lead (Mark S.Colon) (one (local_type_text p.kind)))))
    (more_parameters_are ps)

pub parameters_have : (p : ParameterTree) (ps : List ParameterTree) → Spells (parameters_text (p ∷ ps))
    (parameter p ++ flat_map (λ p. Mark S.Comma ∷ parameter p) ps)
parameters_have p ps = next (lead (Named p.name) (lead (Mark S.Colon) (one (local_type_text p.kind))))
    (more_parameters_are ps)

pub parameters_are : (ps : List ParameterTree) → Spells (parameters_text ps) (parameters_text ps [])
parameters_are [] = nothing
parameters_are (p ∷ ps) = whole (parameters_have p ps)

pub returns_is : (t : Option ResultType) → Spells (returns_text t) (returns_text t [])
returns_is None = nothing
returns_is (Some t) = lead (Mark S.Colon) (one (result_type_text t))

pub body_has : (b : BodyTree) → Spells (body_text b)
    (flat_map local b.locals ++ statements_text b.statements [] ++ Word K.End ∷ [])
body_has b = next (next (locals_are b.locals) (statements_are b.statements)) (one (Word K.End))

pub procedure_has : (p : ProcedureTree) → Spells (procedure_text p)
    (WordAt K.Procedure p.place ∷ Named p.name ∷ MarkAt S.OpenParen p.open_place ∷ parameters_text p.parameters
    [] ++ Mark S.CloseParen ∷ returns_text p.returns [] ++ Mark S.Semicolon ∷ body_text p.body [] ++ Mark
    S.Semicolon ∷ [])
procedure_has p =
    next
    (next
    (next
    (lead (WordAt K.Procedure p.place) (lead (Named p.name)
    (lead (MarkAt S.OpenParen p.open_place) (parameters_are p.parameters))))
    (lead (Mark S.CloseParen) (returns_is p.returns))) (lead (Mark S.Semicolon) (whole (body_has p.body))))
    (one (Mark S.Semicolon))

pub procedures_are : (ps : List ProcedureTree) → Spells (procedures_text ps) (flat_map procedure ps)
procedures_are [] = nothing
procedures_are (p ∷ ps) = next (whole (procedure_has p)) (procedures_are ps)

pub access_procedures_are : (ps : List MonitorProcedureTree) → Spells (monitor_procedures_text ps)
    (flat_map access_procedure ps)
access_procedures_are [] = nothing
access_procedures_are (p ∷ ps) = next (lead (access_text p.access) (whole (procedure_has p.procedure)))
    (access_procedures_are ps)

pub recover_has : (r : RecoverTree) → Spells (recover_text (Some r))
    (WordAt K.Recover r.place ∷ body_text r.body [] ++ Mark S.Semicolon ∷ [])
recover_has r = next (lead (WordAt K.Recover r.place) (whole (body_has r.body))) (one (Mark S.Semicolon))

pub recover_is : (r : Option RecoverTree) → Spells (recover_text r) (recover_text r [])
recover_is None = nothing
recover_is (Some r) = whole (recover_has r)

pub monitor_has : (m : MonitorTree) → Spells (monitors_text (m ∷ []))
    (WordAt K.Monitor m.place ∷ Named m.name ∷ Mark S.Semicolon ∷ flat_map member m.members ++ flat_map
    access_procedure m.procedures ++ recover_text m.recover [] ++ Word K.End ∷ Mark S.Semicolon ∷ [])
monitor_has m =
    next
    (next
    (next (lead (WordAt K.Monitor m.place) (lead (Named m.name) (lead (Mark S.Semicolon) (members_are m.members))))
    (access_procedures_are m.procedures)) (recover_is m.recover)) (lead (Word K.End) (one (Mark S.Semicolon)))

pub monitors_are : (ms : List MonitorTree) → Spells (monitors_text ms) (flat_map monitor ms)
monitors_are [] = nothing
monitors_are (m ∷ ms) = next (whole (monitor_has m)) (monitors_are ms)

-- a unit ends with its text, so that its end is what follows
pub unit_has : (u : UnitTree) → unit_text u ≡ Word K.Program ∷ Named u.name ∷ Mark S.Semicolon ∷ flat_map monitor
    u.monitors ++ flat_map procedure u.procedures ++ WordAt K.Main u.place ∷ body_text u.body [] ++ Mark
    S.Dot ∷ Finish ∷ []
unit_has u =
    alone
    (next (next (next (lead (Word K.Program) (lead (Named u.name) (lead (Mark S.Semicolon) (monitors_are u.monitors))))
    (procedures_are u.procedures)) (lead (WordAt K.Main u.place) (whole (body_has u.body))))
    (lead (Mark S.Dot) (one Finish)))
