-- The faults of bodies are none of a scope's names, of cycles of calls or of limits.
use Rattle.std.proofs.Common.{inl, inr, List, [], ◌∷◌, ◌++◌, Option, Some, None, Bool, true, false, subst, arith}
use Rattle.std.proofs.Common.{ℕ, zero, suc}
use Rattle.std.specs.List.{Contains}
use Rattle.std.proofs.lemmas.List.Elements.{Contains-append_cases}
use Rattle.scanner.specs.declared.token.Place.{Place}
use Rattle.scanner.specs.declared.refusal.Refusal.{Refusal}
use Rattle.scanner.specs.declared.refusal.RefusalKind.{RefusalKind}
use Rattle.scanner.specs.declared.refusal.RefusalKind.TheVariants as K
use Rattle.program.specs.declared.kinds.ValueType.{ValueType}
use Rattle.program.specs.declared.kinds.ValueType.TheVariants.{Integer, Boolean, Process}
use Rattle.program.specs.declared.kinds.MemberType.{MemberType}
use Rattle.program.specs.declared.kinds.MemberType.TheVariants.{Variable, Condition, Array}
use Rattle.syntax.specs.Lexeme.{NameTree}
use Rattle.syntax.specs.declared.expression.Comparator.{Comparator}
use Rattle.syntax.specs.declared.expression.Comparator.TheVariants as C
use Rattle.syntax.specs.Tree.{ExpressionTree, AnyOf, ConjunctionTrees, NoConjunctions, OrElse, ConjunctionTree, AllOf}
use Rattle.syntax.specs.Tree.{RelationTrees, NoRelations, AndAlso, RelationTree, Relates, ComparisonTree}
use Rattle.syntax.specs.Tree.{NoComparison, Compares, SumTree, Total, SummandTrees, NoSummands, Adds, TermTree}
use Rattle.syntax.specs.Tree.{Product}
use Rattle.syntax.specs.Tree.{MultiplierTrees, NoMultipliers, Scales, FactorTree, Constant, Truthful, Reads, Group}
use Rattle.syntax.specs.Tree.{Minus, Not, IndexTree, NoIndex, At, VariableTree, CalleeTree, ParameterTree}
use Rattle.syntax.specs.Tree.{StatementTree, Assign, If, While, Call, Fork, Join, Return, Wait, Notify, Broadcast}
use Rattle.syntax.specs.Tree.{Print, Abort, StatementTrees, NoStatements, Then, PartTree, NoPart, Part}
use Rattle.types.specs.Faults.{fault, where_true}
use Rattle.types.specs.Pieces.{Piece}
use Rattle.types.specs.Scope.{Scope, Meaning, Nothing, ALocal, AMember, meaning, local_number}
use Rattle.types.specs.Typing.{differ, differs, sum_type, sum_place}
use Rattle.types.specs.ExpressionFaults as x
use Rattle.types.specs.StatementFaults as f
use Rattle.types.specs.CallFaults as c

abbrev pub IsOfBody : RefusalKind → Type 0
IsOfBody K.Redeclared = ⊥
IsOfBody K.Recursion = ⊥
IsOfBody K.Limit = ⊥
IsOfBody _ = Unit {0}

-- faults of such kinds alone
pub record Plain (fs : List Refusal) : Type 0 where
  pub each : (e : Refusal) → Contains fs e → IsOfBody e.kind

none : Plain []
none = record { each = λ e (k, h, p). absurd (omega (arith, h)) }

join : {xs ys : List Refusal} → Plain xs → Plain ys → Plain (xs ++ ys)
join {xs = xs} {ys = ys} p q = record {
  each = λ e c. elim (Contains-append_cases xs ys e c) [ inl a ↦ p.each e a | inr b ↦ q.each e b ];
}

single : (e f : Refusal) → IsOfBody e.kind → Contains (e ∷ []) f → IsOfBody f.kind
single e f h (zero, l, p) = subst (λ z. IsOfBody z.kind) p h
single e f h (suc k, l, p) = absurd (omega (arith, l))

one : (kind : RefusalKind) (place : Place) → IsOfBody kind → Plain (fault kind place ∷ [])
one kind place h = record { each = λ e c. single (fault kind place) e h c }

told : (b : Bool) (kind : RefusalKind) (place : Place) → IsOfBody kind → Plain (where_true b kind place)
told true kind place h = one kind place h
told false kind place h = none

wants : (t : ValueType) (o : Option ValueType) (place : Place) → Plain (x.wants t o place)
wants t o place = told (differs t o) K.TypeMismatch place tt

kinds : (m : MemberType) (i : IndexTree) (place : Place) → Plain (x.kind_faults m i place)
kinds (Variable t) NoIndex place = none
kinds Condition NoIndex place = one K.TypeMismatch place tt
kinds (Array n) NoIndex place = one K.TypeMismatch place tt
kinds (Variable t) (At e) place = one K.TypeMismatch place tt
kinds Condition (At e) place = one K.TypeMismatch place tt
kinds (Array n) (At e) place = none

uses : (m : Meaning) (i : IndexTree) (place : Place) → Plain (x.use_faults m i place)
uses Nothing i place = one K.Unknown place tt
uses (ALocal slot t) NoIndex place = none
uses (ALocal slot t) (At e) place = one K.TypeMismatch place tt
uses (AMember member kind) i place = kinds kind i place

equality : (l r : Option ValueType) (p q : Place) → Plain (x.equality_faults l r p q)
equality (Some Process) r p q = one K.TypeMismatch p tt
equality (Some Integer) r p q = told (differ (Some Integer) r) K.TypeMismatch q tt
equality (Some Boolean) r p q = told (differ (Some Boolean) r) K.TypeMismatch q tt
equality None r p q = told (differ None r) K.TypeMismatch q tt

order : (l r : Option ValueType) (p q : Place) → Plain (x.order_faults l r p q)
order l r p q = join (wants Integer l p) (wants Integer r q)

compared : (sign : Comparator) (l r : Option ValueType) (p q : Place) → Plain (x.comparison_faults sign l r p q)
compared C.Equal l r p q = equality l r p q
compared C.NotEqual l r p q = equality l r p q
compared C.Less l r p q = order l r p q
compared C.LessEqual l r p q = order l r p q
compared C.Greater l r p q = order l r p q
compared C.GreaterEqual l r p q = order l r p q

mutual
  expression : (s : Scope) (e : ExpressionTree) → Plain (x.expression_faults s e)
  expression s (AnyOf c cs) = join (conjunction s c) (any_of s c cs)

  any_of : (s : Scope) (c : ConjunctionTree) (cs : ConjunctionTrees) → Plain (x.any_of_faults s c cs)
  any_of s first NoConjunctions = none
  any_of s first (OrElse c cs) =
      join (join (join (wants Boolean _ _) (conjunction s c)) (wants Boolean _ _)) (conjunctions s cs)

  conjunctions : (s : Scope) (cs : ConjunctionTrees) → Plain (x.conjunctions_faults s cs)
  conjunctions s NoConjunctions = none
  conjunctions s (OrElse c cs) = join (join (conjunction s c) (wants Boolean _ _)) (conjunctions s cs)

  conjunction : (s : Scope) (c : ConjunctionTree) → Plain (x.conjunction_faults s c)
  conjunction s (AllOf r rs) = join (relation s r) (all_of s r rs)

  all_of : (s : Scope) (r : RelationTree) (rs : RelationTrees) → Plain (x.all_of_faults s r rs)
  all_of s first NoRelations = none
  all_of s first (AndAlso r rs) =
      join (join (join (wants Boolean _ _) (relation s r)) (wants Boolean _ _)) (relations s rs)

  relations : (s : Scope) (rs : RelationTrees) → Plain (x.relations_faults s rs)
  relations s NoRelations = none
  relations s (AndAlso r rs) = join (join (relation s r) (wants Boolean _ _)) (relations s rs)

  relation : (s : Scope) (r : RelationTree) → Plain (x.relation_faults s r)
  relation s (Relates l r) = join (sum s l) (sides s l r)

  sides : (s : Scope) (l : SumTree) (r : ComparisonTree) → Plain (x.compared_faults s l r)
  sides s l NoComparison = none
  sides s l (Compares sign r) = join (sum s r) (compared sign (sum_type s l) (sum_type s r) (sum_place l)
      (sum_place r))

  sum : (s : Scope) (t : SumTree) → Plain (x.sum_faults s t)
  sum s (Total t ts) = join (term s t) (total s t ts)

  total : (s : Scope) (t : TermTree) (ts : SummandTrees) → Plain (x.total_faults s t ts)
  total s first NoSummands = none
  total s first (Adds sign place t ts) =
      join (join (join (wants Integer _ _) (term s t)) (wants Integer _ _)) (summands s ts)

  summands : (s : Scope) (ts : SummandTrees) → Plain (x.summands_faults s ts)
  summands s NoSummands = none
  summands s (Adds sign place t ts) = join (join (term s t) (wants Integer _ _)) (summands s ts)

  term : (s : Scope) (t : TermTree) → Plain (x.term_faults s t)
  term s (Product f fs) = join (factor s f) (product s f fs)

  product : (s : Scope) (f : FactorTree) (fs : MultiplierTrees) → Plain (x.product_faults s f fs)
  product s first NoMultipliers = none
  product s first (Scales operator f fs) =
      join (join (join (wants Integer _ _) (factor s f)) (wants Integer _ _)) (multipliers s fs)

  multipliers : (s : Scope) (fs : MultiplierTrees) → Plain (x.multipliers_faults s fs)
  multipliers s NoMultipliers = none
  multipliers s (Scales operator f fs) = join (join (factor s f) (wants Integer _ _)) (multipliers s fs)

  factor : (s : Scope) (f : FactorTree) → Plain (x.factor_faults s f)
  factor s (Constant n) = none
  factor s (Truthful t) = none
  factor s (Reads name i) = join (uses (meaning s name) i name.place) (index s i)
  factor s (Group place e) = expression s e
  factor s (Minus place f) = join (factor s f) (wants Integer _ _)
  factor s (Not place f) = join (factor s f) (wants Boolean _ _)

  index : (s : Scope) (i : IndexTree) → Plain (x.index_faults s i)
  index s NoIndex = none
  index s (At e) = join (expression s e) (wants Integer _ _)

typed : (s : Scope) (t : ValueType) (e : ExpressionTree) → Plain (f.typed_faults s t e)
typed s t e = join (expression s e) (wants t _ _)

value : (s : Scope) (t : Option ValueType) (e : ExpressionTree) → Plain (f.value_faults s t e)
value s t e = join (expression s e) (told _ K.TypeMismatch _ tt)

target : (s : Scope) (v : VariableTree) → Plain (f.target_faults s v)
target s v = join (uses (meaning s v.name) v.index v.name.place) (index s v.index)

slot : (s : Scope) (t : Option ValueType) (name : NameTree) (o : Option ℕ) → Plain (f.slot_faults s t name o)
slot s t name None = one K.Unknown name.place tt
slot s t name (Some n) = told _ K.TypeMismatch name.place tt

taker : (s : Scope) (t : Option ValueType) (name : NameTree) → Plain (f.taker_faults s t name)
taker s t name = slot s t name (local_number s name)

into : (s : Scope) (t : Option ValueType) (o : Option NameTree) → Plain (f.into_faults s t o)
into s t None = none
into s t (Some name) = taker s t name

matched : (s : Scope) (es : List ExpressionTree) (ps : List ParameterTree) → Plain (f.matched_faults s es ps)
matched s [] ps = none
matched s (e ∷ es) [] = none
matched s (e ∷ es) (p ∷ ps) = join (wants _ _ _) (matched s es ps)

arguments : (s : Scope) (es : List ExpressionTree) → Plain (f.arguments_faults s es)
arguments s [] = none
arguments s (e ∷ es) = join (expression s e) (arguments s es)

count : (c : CalleeTree) (q : Piece) → Plain (f.count_faults c q)
count c q = told _ K.TypeMismatch _ tt

call : (s : Scope) (callee : CalleeTree) (name : Option NameTree) (o : Option Piece)
    → Plain (c.call_faults s callee name o)
call s c name None = join (join (one K.Unknown _ tt) (arguments s c.arguments)) (into s None name)
call s c name (Some q) = join (join (join (join (join (join (told _ K.WrongPlace _ tt) (told _ K.DirectReentry _ tt))
    (count c q))
    (told _ K.TypeMismatch _ tt)) (arguments s c.arguments)) (matched s c.arguments q.parameters)) (into s _ name)

fork : (s : Scope) (callee : CalleeTree) (name : NameTree) (o : Option Piece) → Plain (c.fork_faults s callee name o)
fork s c name None = join (join (one K.Unknown _ tt) (arguments s c.arguments)) (taker s (Some Process) name)
fork s c name (Some q) = join (join (join (join (told _ K.WrongPlace _ tt) (count c q)) (arguments s c.arguments))
    (matched s c.arguments q.parameters)) (taker s (Some Process) name)

returned : (s : Scope) (place : Place) (t : Option ValueType) (o : Option ExpressionTree)
    → Plain (c.return_faults s place t o)
returned s place None None = none
returned s place None (Some e) = join (one K.TypeMismatch place tt) (expression s e)
returned s place (Some t) None = one K.TypeMismatch place tt
returned s place (Some t) (Some e) = typed s t e

member : (m : MemberType) (place : Place) → Plain (c.member_condition m place)
member Condition place = none
member (Variable t) place = one K.TypeMismatch place tt
member (Array n) place = one K.TypeMismatch place tt

condition : (m : Meaning) (place : Place) → Plain (c.condition_faults m place)
condition Nothing place = one K.Unknown place tt
condition (ALocal n t) place = one K.TypeMismatch place tt
condition (AMember m kind) place = member kind place

recover : (s : Scope) (place : Place) → Plain (c.recover_faults s place)
recover s place = told _ K.WrongPlace place tt

outside : (s : Scope) (place : Place) → Plain (c.outside_faults s place)
outside s place = told _ K.WrongPlace place tt

mutual
  statement : (s : Scope) (t : StatementTree) → Plain (c.statement_faults s t)
  statement s (Assign v e) = join (target s v) (value s (f.target_type s v) e)
  statement s (If place e ss rest) = join (join (typed s Boolean e) (block s ss)) (part s rest)
  statement s (While place e ss) = join (typed s Boolean e) (block s ss)
  statement s (Call place c name) = join (recover s place) (call s c name (f.called_piece s c))
  statement s (Fork place c name) = join (recover s place) (fork s c name (f.called_piece s c))
  statement s (Join place e name rest) =
      join (join (join (recover s place) (typed s Process e)) (into s (Some Integer) name)) (part s rest)
  statement s (Return place e) = join (recover s place) (returned s place _ e)
  statement s (Wait place name) =
      join (join (recover s place) (outside s place)) (condition (meaning s name) name.place)
  statement s (Notify place name) = join (outside s place) (condition (meaning s name) name.place)
  statement s (Broadcast place name) = join (outside s place) (condition (meaning s name) name.place)
  statement s (Print place e) = typed s Integer e
  statement s (Abort place) = none

  -- the faults of statements
  pub block : (s : Scope) (ss : StatementTrees) → Plain (c.block_faults s ss)
  block s NoStatements = none
  block s (Then first rest) = join (statement s first) (block s rest)

  part : (s : Scope) (p : PartTree) → Plain (c.part_faults s p)
  part s NoPart = none
  part s (Part ss) = block s ss
