-- A CALL or a FORK without a fault has a callee, and none of the faults that it could have with it.
use Rattle.std.proofs.Common.{◌≡◌, ℕ, ◌++◌, Option, Some, None, refl, ◌&&◌, is_some, is_none, option_map, slice_get}
use Rattle.std.proofs.Common.{option_and_then}
use Rattle.scanner.specs.declared.refusal.RefusalKind.TheVariants as K
use Rattle.program.specs.declared.kinds.ValueType.TheVariants.{Process}
use Rattle.syntax.specs.Lexeme.{NameTree}
use Rattle.syntax.specs.Tree.{CalleeTree}
use Rattle.types.specs.Kinds.{result_kind}
use Rattle.types.specs.Pieces.{Piece, pieces}
use Rattle.types.specs.Scope.{Scope, callee}
use Rattle.types.specs.Faults.{where_true, unknown}
use Rattle.types.specs.StatementFaults.{taker_faults, into_faults, called_piece, callee_place, missing_place, own_role}
use Rattle.types.specs.StatementFaults.{is_internal, matched_faults, arguments_faults, count_faults}
use Rattle.types.specs.CallFaults.{call_faults, fork_faults}
use Rattle.proof_well_formed.proofs.Free.{Free, parts}

-- the callee's number, and its piece
pub record IsCalled (s : Scope) (c : CalleeTree) (q : Piece) : Type 0 where
  pub number : ℕ
  pub found : callee s c ≡ Some number
  pub at : slice_get (pieces s.unit) number ≡ Some q

pub record FreeCall (s : Scope) (c : CalleeTree) (name : Option NameTree) : Type 0 where
  pub piece : Piece
  pub called : IsCalled s c piece
  pub inner : Free (where_true (is_some c.dotted && is_internal piece.role) K.WrongPlace (callee_place c))
  pub entry : Free (where_true (own_role s.piece.role piece.role) K.DirectReentry (callee_place c))
  pub count : Free (count_faults c piece)
  pub result : Free (where_true (is_some name && is_none piece.returns) K.TypeMismatch (callee_place c))
  pub arguments : Free (arguments_faults s c.arguments)
  pub matched : Free (matched_faults s c.arguments piece.parameters)
  pub taker : Free (into_faults s (option_map result_kind piece.returns) name)

pub record FreeFork (s : Scope) (c : CalleeTree) (name : NameTree) : Type 0 where
  pub piece : Piece
  pub called : IsCalled s c piece
  pub inner : Free (where_true (is_internal piece.role) K.WrongPlace (callee_place c))
  pub count : Free (count_faults c piece)
  pub arguments : Free (arguments_faults s c.arguments)
  pub matched : Free (matched_faults s c.arguments piece.parameters)
  pub taker : Free (taker_faults s (Some Process) name)

called_at : (s : Scope) (c : CalleeTree) (q : Piece) (o : Option ℕ) → callee s c ≡ o
    → option_and_then (λ n. slice_get (pieces s.unit) n) o ≡ Some q → IsCalled s c q
called_at s c q None e h = cc
called_at s c q (Some n) e h = record { number = n; found = e; at = h }

call_with : (s : Scope) (c : CalleeTree) (name : Option NameTree) (o : Option Piece) → called_piece s c ≡ o
    → Free (call_faults s c name o) → FreeCall s c name
call_with s c name None e f =
    let x = parts (unknown (missing_place s c.name c.dotted) ++ arguments_faults s c.arguments)
    (into_faults s None name) f in
    let y = parts (unknown (missing_place s c.name c.dotted)) (arguments_faults s c.arguments) x.0 in
    absurd (y.0.0 tt)
call_with s c name (Some q) e f =
    let w1 = where_true (is_some c.dotted && is_internal q.role) K.WrongPlace (callee_place c) in
    let w2 = where_true (own_role s.piece.role q.role) K.DirectReentry (callee_place c) in
    let w4 = where_true (is_some name && is_none q.returns) K.TypeMismatch (callee_place c) in
    let x6 = parts (w1 ++ w2 ++ count_faults c q ++ w4 ++ arguments_faults s c.arguments
    ++ matched_faults s c.arguments q.parameters) (into_faults s (option_map result_kind q.returns) name) f in
    let x5 = parts (w1 ++ w2 ++ count_faults c q ++ w4 ++ arguments_faults s c.arguments)
    (matched_faults s c.arguments q.parameters) x6.0 in
    let x4 = parts (w1 ++ w2 ++ count_faults c q ++ w4) (arguments_faults s c.arguments) x5.0 in
    let x3 = parts (w1 ++ w2 ++ count_faults c q) w4 x4.0 in
    let x2 = parts (w1 ++ w2) (count_faults c q) x3.0 in
    let x1 = parts w1 w2 x2.0 in record {
      piece = q;
      called = called_at s c q (callee s c) refl e;
      inner = x1.0;
      entry = x1.1;
      count = x2.1;
      result = x3.1;
      arguments = x4.1;
      matched = x5.1;
      taker = x6.1;
    }

pub free_call : (s : Scope) (c : CalleeTree) (name : Option NameTree) → Free (call_faults s c name (called_piece s c))
    → FreeCall s c name
free_call s c name f = call_with s c name (called_piece s c) refl f

fork_with : (s : Scope) (c : CalleeTree) (name : NameTree) (o : Option Piece) → called_piece s c ≡ o
    → Free (fork_faults s c name o) → FreeFork s c name
fork_with s c name None e f =
    let x = parts (unknown (missing_place s c.name c.dotted) ++ arguments_faults s c.arguments)
    (taker_faults s (Some Process) name) f in
    let y = parts (unknown (missing_place s c.name c.dotted)) (arguments_faults s c.arguments) x.0 in
    absurd (y.0.0 tt)
fork_with s c name (Some q) e f =
    let w1 = where_true (is_internal q.role) K.WrongPlace (callee_place c) in
    let x4 = parts (w1 ++ count_faults c q ++ arguments_faults s c.arguments
    ++ matched_faults s c.arguments q.parameters) (taker_faults s (Some Process) name) f in
    let x3 = parts (w1 ++ count_faults c q ++ arguments_faults s c.arguments)
    (matched_faults s c.arguments q.parameters) x4.0 in
    let x2 = parts (w1 ++ count_faults c q) (arguments_faults s c.arguments) x3.0 in
    let x1 = parts w1 (count_faults c q) x2.0 in record {
      piece = q;
      called = called_at s c q (callee s c) refl e;
      inner = x1.0;
      count = x1.1;
      arguments = x2.1;
      matched = x3.1;
      taker = x4.1;
    }

pub free_fork : (s : Scope) (c : CalleeTree) (name : NameTree) → Free (fork_faults s c name (called_piece s c))
    → FreeFork s c name
free_fork s c name f = fork_with s c name (called_piece s c) refl f
