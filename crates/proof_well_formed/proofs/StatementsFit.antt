-- A block without a fault fits where it stands.
use Rattle.std.proofs.Common.{◌≡◌, ◌++◌, Option, Some, None, refl, sym, subst, false, option_map, is_some, ◌&&◌}
use Rattle.scanner.specs.declared.token.Place.{Place}
use Rattle.scanner.specs.declared.refusal.RefusalKind.TheVariants as K
use Rattle.program.specs.declared.kinds.ValueType.{ValueType}
use Rattle.program.specs.declared.kinds.ValueType.TheVariants.{Integer, Boolean, Process}
use Rattle.program.specs.declared.kinds.MemberType.TheVariants.{Variable, Condition, Array}
use Rattle.program.specs.Scope as P
use Rattle.program.specs.Scope.{IsCondition}
use Rattle.program.specs.Trees as T
use Rattle.program.specs.Typing.{HasType, TargetHasType, ReturnFits, Fits, BlockFits, PartFits}
use Rattle.syntax.specs.Lexeme.{NameTree}
use Rattle.syntax.specs.Tree.{ExpressionTree, VariableTree, IndexTree, NoIndex, At, StatementTree, Assign, If, While}
use Rattle.syntax.specs.Tree.{Call, Fork, Join, Return, Wait, Notify, Broadcast, Print, Abort, StatementTrees}
use Rattle.syntax.specs.Tree.{NoStatements, Then, PartTree, NoPart, Part}
use Rattle.types.specs.Kinds.{result_kind}
use Rattle.types.specs.Scope.{Scope, Meaning, Nothing, ALocal, AMember, meaning}
use Rattle.types.specs.Typing.{differ, type_of_use, expression_type, expression_place}
use Rattle.types.specs.Faults.{where_true}
use Rattle.types.specs.ExpressionFaults.{wants, use_faults, index_faults, expression_faults}
use Rattle.types.specs.StatementFaults.{typed_faults, target_faults, target_type, value_faults, into_faults}
use Rattle.types.specs.CallFaults.{return_faults, condition_faults, recover_faults, outside_faults}
use Rattle.types.specs.CallFaults.{statement_faults, block_faults, part_faults}
use Rattle.types.specs.Expressions.{expression, array_of}
use Rattle.types.specs.Statements.{target_of, target, value, condition, statement, block, part}
use Rattle.proof_well_formed.proofs.Free.{Free, parts, three}
use Rattle.proof_well_formed.proofs.Agreement.{Agrees}
use Rattle.proof_well_formed.proofs.Small.{SmallExpression, SmallIndex, SmallValue, SmallStatement, SmallStatements}
use Rattle.proof_well_formed.proofs.Small.{SmallPart}
use Rattle.proof_well_formed.proofs.ExpressionsFit.{HasKnown, IsIndex, wanted, expression_fits, index_fits}
use Rattle.proof_well_formed.proofs.CallsFit.{result_taken, no_recover, call_fits, fork_fits}

pub typed : (s : Scope) (t : P.Scope) → Agrees s t → (k : ValueType) (e : ExpressionTree)
    → Free (typed_faults s k e) → SmallExpression e → HasType t (expression s e) k
typed s t a k e f n =
    let p = parts (expression_faults s e) (wants k (expression_type s e) (expression_place e)) f in
    wanted t (expression s e) k (expression_type s e) (expression_place e) p.1 (expression_fits s t a e p.0 n)

-- a target has a type, and this is the one that is known
abbrev pub TargetHasKnown : P.Scope → T.Target → Option ValueType → Type 0
TargetHasKnown t x None = ⊥
TargetHasKnown t x (Some k) = TargetHasType t x k

target_fits : (s : Scope) (t : P.Scope) → Agrees s t → (name : NameTree) (m : Meaning) → meaning s name ≡ m
    → (index : IndexTree) (place : Place) → Free (use_faults m index place) → IsIndex s t index
    → TargetHasKnown t (target_of s m index) (type_of_use m index)
target_fits s t a name Nothing e index place f i = absurd (f.0 tt)
target_fits s t a name (ALocal slot k) e NoIndex place f i = a.local name slot k e
target_fits s t a name (ALocal slot k) e (At j) place f i = absurd (f.0 tt)
target_fits s t a name (AMember m (Variable k)) e NoIndex place f i = a.member name m (Variable k) e
target_fits s t a name (AMember m Condition) e NoIndex place f i = absurd (f.0 tt)
target_fits s t a name (AMember m (Array n)) e NoIndex place f i = absurd (f.0 tt)
target_fits s t a name (AMember m (Variable k)) e (At j) place f i = absurd (f.0 tt)
target_fits s t a name (AMember m Condition) e (At j) place f i = absurd (f.0 tt)
target_fits s t a name (AMember m (Array n)) e (At j) place f i =
    let h = a.member name m (Array n) e in ((h.0, n, h.1), i, refl)

assigned : (t : P.Scope) (x : T.Target) (e : T.Expression) (k m : Option ValueType) (place : Place)
    → Free (where_true (differ k m) K.TypeMismatch place) → TargetHasKnown t x k → HasKnown t e m
    → Fits t (T.Assign x e)
assigned t x e None m place f g h = absurd g
assigned t x e (Some k) None place f g h = absurd h
assigned t x e (Some k) (Some m) place f g h = (k, g, wanted t e k (Some m) place f h)

assignment_fits : (s : Scope) (t : P.Scope) → Agrees s t → (v : VariableTree) (e : ExpressionTree)
    → Free (target_faults s v ++ value_faults s (target_type s v) e) → SmallIndex v.index → SmallExpression e
    → Fits t (T.Assign (target s v) (expression s e))
assignment_fits s t a v e f i n =
    let x = parts (target_faults s v) (value_faults s (target_type s v) e) f in
    let y = parts (use_faults (meaning s v.name) v.index v.name.place) (index_faults s v.index) x.0 in
    let z = parts (expression_faults s e) (where_true (differ (target_type s v) (expression_type s e)) K.TypeMismatch
    (expression_place e)) x.1 in
    assigned t (target s v) (expression s e) (target_type s v) (expression_type s e) (expression_place e) z.1
    (target_fits s t a v.name (meaning s v.name) refl v.index v.name.place y.0 (index_fits s t a v.index y.1 i))
    (expression_fits s t a e z.0 n)

return_fits : (s : Scope) (t : P.Scope) → Agrees s t → (place : Place) (r : Option ValueType)
    (e : Option ExpressionTree) → Free (return_faults s place r e) → SmallValue e → ReturnFits t r (value s e)
return_fits s t a place None None f n = tt
return_fits s t a place None (Some e) f n = absurd (f.0 tt)
return_fits s t a place (Some k) None f n = absurd (f.0 tt)
return_fits s t a place (Some k) (Some e) f n = typed s t a k e f n

condition_fits : (s : Scope) (t : P.Scope) → Agrees s t → (name : NameTree) (m : Meaning) → meaning s name ≡ m
    → (place : Place) → Free (condition_faults m place) → IsCondition t (array_of m)
condition_fits s t a name Nothing e place f = absurd (f.0 tt)
condition_fits s t a name (ALocal slot k) e place f = absurd (f.0 tt)
condition_fits s t a name (AMember m (Variable k)) e place f = absurd (f.0 tt)
condition_fits s t a name (AMember m Condition) e place f = a.member name m Condition e
condition_fits s t a name (AMember m (Array n)) e place f = absurd (f.0 tt)

signalled : (s : Scope) (t : P.Scope) → Agrees s t → (name : NameTree) (place : Place)
    → Free (outside_faults s place ++ condition_faults (meaning s name) name.place)
    → IsCondition t (condition s name)
signalled s t a name place f = condition_fits s t a name (meaning s name) refl name.place
    (parts (outside_faults s place) (condition_faults (meaning s name) name.place) f).1

never : (name : Option NameTree) → (is_some name && false) ≡ false
never None = refl
never (Some name) = refl

module _ (s : Scope) (t : P.Scope) (a : Agrees s t) where
  mutual
    pub statement_fits : (x : StatementTree) → Free (statement_faults s x) → SmallStatement x
        → Fits t (statement s x)
    statement_fits (Assign v e) f n = assignment_fits s t a v e f n.0 n.1
    statement_fits (If place e ss rest) f n =
        let p = three (typed_faults s Boolean e) (block_faults s ss) (part_faults s rest) f in
        (typed s t a Boolean e p.0 n.0, block_fits ss p.1 n.1, part_fits rest p.2 n.2)
    statement_fits (While place e ss) f n =
        let p = parts (typed_faults s Boolean e) (block_faults s ss) f in
        (typed s t a Boolean e p.0 n.0, block_fits ss p.1 n.1)
    statement_fits (Call place c into) f n = call_fits s t a c into place f n
    statement_fits (Fork place c into) f n = fork_fits s t a c into place f n
    statement_fits (Join place e into rest) f n =
        let p = parts (recover_faults s place ++ typed_faults s Process e ++ into_faults s (Some Integer) into)
        (part_faults s rest) f in
        let q = three (recover_faults s place) (typed_faults s Process e) (into_faults s (Some Integer) into) p.0 in (
          no_recover s t a place q.0,
          typed s t a Process e q.1 n.0,
          result_taken s t a into (Some Integer) (never into) q.2,
          part_fits rest p.1 n.1,
        )
    statement_fits (Return place e) f n =
        let p = parts (recover_faults s place) (return_faults s place (option_map result_kind s.piece.returns) e) f in (
          no_recover s t a place p.0,
          subst (λ r. ReturnFits t r (value s e)) (sym a.result) (return_fits s t a place
              (option_map result_kind s.piece.returns) e p.1 n),
        )
    statement_fits (Wait place name) f n =
        let p = three (recover_faults s place) (outside_faults s place)
        (condition_faults (meaning s name) name.place) f in
        (no_recover s t a place p.0, condition_fits s t a name (meaning s name) refl name.place p.2)
    statement_fits (Notify place name) f n = signalled s t a name place f
    statement_fits (Broadcast place name) f n = signalled s t a name place f
    statement_fits (Print place e) f n = typed s t a Integer e f n
    statement_fits (Abort place) f n = tt

    pub block_fits : (ss : StatementTrees) → Free (block_faults s ss) → SmallStatements ss → BlockFits t (block s ss)
    block_fits NoStatements f n = tt
    block_fits (Then first rest) f n =
        let p = parts (statement_faults s first) (block_faults s rest) f in
        (statement_fits first p.0 n.0, block_fits rest p.1 n.1)

    pub part_fits : (x : PartTree) → Free (part_faults s x) → SmallPart x → PartFits t (part s x)
    part_fits NoPart f n = tt
    part_fits (Part ss) f n = block_fits ss f n
