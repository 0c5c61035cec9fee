-- What is called, and what takes results.
use Rattle.std.proofs.Common.{◌≡◌, ℕ, List, [], ◌∷◌, ◌++◌, Option, Some, None, refl, sym, ap, subst, not, true, false}
use Rattle.std.proofs.Common.{Bool, ◌∙◌, length, slice_get, nat_eq, ◌&&◌, is_some, is_none, option_map}
use Rattle.std.proofs.Common.{unwrap_or, arith, eqb-true, eq-eqb}
use Rattle.scanner.specs.declared.token.Place.{Place}
use Rattle.scanner.specs.declared.refusal.RefusalKind.TheVariants as K
use Rattle.program.specs.declared.kinds.ValueType.{ValueType}
use Rattle.program.specs.declared.kinds.ValueType.TheVariants.{Process}
use Rattle.program.specs.declared.kinds.Role.{Role}
use Rattle.program.specs.declared.kinds.Role.TheVariants.{Entry, Internal, Recover, External, Main}
use Rattle.program.specs.Scope as P
use Rattle.program.specs.Scope.{own_monitor, IsLocal}
use Rattle.program.specs.Trees as T
use Rattle.program.specs.Typing.{ArgumentsFit, ResultFits, MayCall, MayBeForked, IsNoRecover, Fits}
use Rattle.syntax.specs.declared.declaration.ResultType.{ResultType}
use Rattle.syntax.specs.Lexeme.{NameTree}
use Rattle.syntax.specs.Tree.{ExpressionTree, CalleeTree, ParameterTree}
use Rattle.types.specs.Kinds.{parameter_kinds, local_kind, result_kind}
use Rattle.types.specs.Pieces.{Piece}
use Rattle.types.specs.Scope.{Scope, local_number, slot_kind}
use Rattle.types.specs.Typing.{differ, expression_type, expression_place}
use Rattle.types.specs.ExpressionFaults.{wants, expression_faults}
use Rattle.types.specs.StatementFaults.{slot_faults, taker_faults, into_faults, called_piece, callee_place}
use Rattle.types.specs.StatementFaults.{own_role, is_internal, is_recover, matched_faults, arguments_faults}
use Rattle.types.specs.StatementFaults.{count_faults}
use Rattle.types.specs.CallFaults.{call_faults, fork_faults, recover_faults}
use Rattle.types.specs.Expressions.{expression}
use Rattle.types.specs.Resolved
use Rattle.types.specs.Statements.{local, into, procedure, arguments}
use Rattle.proof_well_formed.proofs.Free.{Free, parts, untrue, true_false}
use Rattle.proof_well_formed.proofs.Agreement.{Agrees, IsFound}
use Rattle.proof_well_formed.proofs.CallParts.{free_call, free_fork}
use Rattle.proof_well_formed.proofs.Small.{SmallArguments}
use Rattle.proof_well_formed.proofs.ExpressionsFit.{wanted, same, expression_fits}

taken_at : (s : Scope) (t : P.Scope) → Agrees s t → (name : NameTree) (w : ValueType) (o : Option ℕ)
    → local_number s name ≡ o → Free (slot_faults s (Some w) name o) → IsLocal t (unwrap_or o 0) w
taken_at s t a name w None e f = absurd (f.0 tt)
taken_at s t a name w (Some slot) e f =
    let h = a.taker name slot e in
    let d : differ (Some w) (slot_kind s slot) ≡ false =
    untrue (differ (Some w) (slot_kind s slot)) K.TypeMismatch name.place tt f in
    let g : differ (Some w) (Some h.0) ≡ false = subst (λ k. differ (Some w) k ≡ false) h.1 d in
    subst (λ k. IsLocal t slot k) (sym (same w h.0 g)) h.2

-- the local that takes a value of this type has it
pub taken : (s : Scope) (t : P.Scope) → Agrees s t → (name : NameTree) (w : ValueType)
    → Free (taker_faults s (Some w) name) → IsLocal t (local s name) w
taken s t a name w f = taken_at s t a name w (local_number s name) refl f

pub result_taken : (s : Scope) (t : P.Scope) → Agrees s t → (name : Option NameTree) (r : Option ValueType)
    → (is_some name && is_none r) ≡ false → Free (into_faults s r name) → ResultFits t (into s name) r
result_taken s t a None r e f = tt
result_taken s t a (Some name) None e f = cc
result_taken s t a (Some name) (Some w) e f = taken s t a name w f

-- arguments of the types of as many parameters
arguments_fit : (s : Scope) (t : P.Scope) → Agrees s t → (es : List ExpressionTree) (ps : List ParameterTree)
    → length es ≡ length ps → Free (arguments_faults s es) → Free (matched_faults s es ps) → SmallArguments es
    → ArgumentsFit t (arguments s es) (parameter_kinds ps)
arguments_fit s t a [] [] l f g n = tt
arguments_fit s t a [] (p ∷ ps) l f g n = absurd (omega (arith, l))
arguments_fit s t a (e ∷ es) [] l f g n = absurd (omega (arith, l))
arguments_fit s t a (e ∷ es) (p ∷ ps) l f g n =
    let x = parts (expression_faults s e) (arguments_faults s es) f in
    let y = parts (wants (local_kind p.kind) (expression_type s e) (expression_place e)) (matched_faults s es ps) g in
    let m : length es ≡ length ps = omega (arith, l) in (
      wanted t (expression s e) (local_kind p.kind) (expression_type s e) (expression_place e) y.0
          (expression_fits s t a e x.0 n.0),
      arguments_fit s t a es ps m x.1 y.1 n.1,
    )

pub counted : (c : CalleeTree) (q : Piece) → Free (count_faults c q) → length c.arguments ≡ length q.parameters
counted c q f =
    let h : not (nat_eq (length c.arguments) (length q.parameters)) ≡ false =
    untrue (not (nat_eq (length c.arguments) (length q.parameters))) K.TypeMismatch (callee_place c) tt f in
    eqb-true (length c.arguments) (length q.parameters) (elim (nat_eq (length c.arguments)
    (length q.parameters)) as (λ b. not b ≡ false → b ≡ true) [ true ↦ λ _. refl | false ↦ λ e. sym e ] h)

is_plain : (b : Bool) → (b && true) ≡ false → b ≡ false
is_plain true h = h
is_plain false h = refl

apart : (m n : ℕ) → nat_eq m n ≡ false → Some m ≡ Some n → ⊥
apart m n h e = let f : m ≡ n = ap (λ o. unwrap_or o 0) e in let g : nat_eq m n ≡ true = eq-eqb m n f in
    true_false (sym g ∙ h)

may_call : (s : Scope) (c : CalleeTree) (caller role : Role) → s.piece.role ≡ caller → own_role caller role ≡ false
    → (is_some c.dotted && is_internal role) ≡ false → IsFound s c role → MayCall caller role
may_call s c (Entry m) (Entry n) r h i f = apart m n h
may_call s c (Internal m) (Entry n) r h i f = apart m n h
may_call s c (Recover m) (Entry n) r h i f = apart m n h
may_call s c External (Entry n) r h i f = λ e. cc
may_call s c Main (Entry n) r h i f = λ e. cc
may_call s c caller (Internal n) r h i f =
    subst (λ x. own_monitor x ≡ Some n) r (f (is_plain (is_some c.dotted) i))
may_call s c caller (Recover n) r h i f = f
may_call s c caller External r h i f = tt
may_call s c caller Main r h i f = f

may_be_forked : (s : Scope) (c : CalleeTree) (role : Role) → is_internal role ≡ false → IsFound s c role
    → MayBeForked role
may_be_forked s c (Entry n) h f = tt
may_be_forked s c (Internal n) h f = cc
may_be_forked s c (Recover n) h f = f
may_be_forked s c External h f = tt
may_be_forked s c Main h f = f

-- a role that is no RECOVER part's
pub no_recover : (s : Scope) (t : P.Scope) → Agrees s t → (place : Place) → Free (recover_faults s place)
    → IsNoRecover t.role
no_recover s t a place f = subst IsNoRecover (sym a.role) (elim s.piece.role as (λ r. is_recover r ≡ false
    → IsNoRecover r) [
      | Entry m ↦ λ _. tt
      | Internal m ↦ λ _. tt
      | Recover m ↦ λ e. cc
      | External ↦ λ _. tt
      | Main ↦ λ _. tt
    ] (untrue (is_recover s.piece.role) K.WrongPlace place tt f))

none_of : (r : Option ResultType) → is_none (option_map result_kind r) ≡ is_none r
none_of None = refl
none_of (Some k) = refl

pub call_fits : (s : Scope) (t : P.Scope) → Agrees s t → (c : CalleeTree) (name : Option NameTree) (place : Place)
    → Free (recover_faults s place ++ call_faults s c name (called_piece s c)) → SmallArguments c.arguments
    → Fits t (T.Call (procedure s c) (arguments s c.arguments) (into s name))
call_fits s t a c name place f n =
    let x = parts (recover_faults s place) (call_faults s c name (called_piece s c)) f in
    let k = free_call s c name x.1 in
    let q : Piece = k.piece in
    let p = a.piece k.called.number q k.called.at in (
      no_recover s t a place x.0,
      Resolved.procedure s.unit q,
      ap (λ z. slice_get t.program.procedures (unwrap_or z 0)) k.called.found ∙ p.0,
      subst (λ r. MayCall r q.role) (sym a.role) (may_call s c s.piece.role q.role refl
          (untrue (own_role s.piece.role q.role) K.DirectReentry (callee_place c) tt k.entry)
          (untrue (is_some c.dotted && is_internal q.role) K.WrongPlace (callee_place c) tt k.inner)
          (a.callee c k.called.number q k.called.found k.called.at)),
      arguments_fit s t a c.arguments q.parameters (counted c q k.count) k.arguments k.matched n,
      result_taken s t a name (option_map result_kind q.returns) (ap (λ b. is_some name && b) (none_of q.returns)
          ∙ untrue (is_some name && is_none q.returns) K.TypeMismatch (callee_place c) tt k.result) k.taker,
    )

pub fork_fits : (s : Scope) (t : P.Scope) → Agrees s t → (c : CalleeTree) (name : NameTree) (place : Place)
    → Free (recover_faults s place ++ fork_faults s c name (called_piece s c)) → SmallArguments c.arguments
    → Fits t (T.Fork (procedure s c) (arguments s c.arguments) (local s name))
fork_fits s t a c name place f n =
    let x = parts (recover_faults s place) (fork_faults s c name (called_piece s c)) f in
    let k = free_fork s c name x.1 in
    let q : Piece = k.piece in
    let p = a.piece k.called.number q k.called.at in (
      no_recover s t a place x.0,
      Resolved.procedure s.unit q,
      ap (λ z. slice_get t.program.procedures (unwrap_or z 0)) k.called.found ∙ p.0,
      may_be_forked s c q.role (untrue (is_internal q.role) K.WrongPlace (callee_place c) tt k.inner)
          (a.callee c k.called.number q k.called.found k.called.at),
      arguments_fit s t a c.arguments q.parameters (counted c q k.count) k.arguments k.matched n,
      taken s t a name Process k.taker,
    )
