-- Calls are of pieces of the unit.
use Rattle.std.proofs.Common.{◌≡◌, ℕ, ◌<◌, ◌≤◌, ◌+◌, List, [], ◌∷◌, length, map, Option, Some}
use Rattle.std.proofs.Common.{None}
use Rattle.std.proofs.Common.{refl, arith}
use Rattle.std.proofs.Common.{slice_get}
use Rattle.std.specs.Prelude.{option_map, option_to_list, option_and_then}
use Rattle.std.specs.List.{All, flat_map}
use Rattle.std.proofs.lemmas.List.{length-map}
use Rattle.std.proofs.lemmas.List.Elements.{All-nil, All-cons, All-append, All-map}
use Rattle.callgraph.specs.declared.Call.{Call}
use Rattle.callgraph.specs.Calls.{Within}
use Rattle.program.specs.Scope.{own_monitor}
use Rattle.syntax.specs.Lexeme.{NameTree}
use Rattle.syntax.specs.Tree.{MonitorTree, UnitTree}
use Rattle.syntax.specs.Tree.{StatementTree, Assign, If, While, Call as CallOf, Fork, Join, Return, Wait, Notify}
use Rattle.syntax.specs.Tree.{Broadcast, Print, Abort, StatementTrees, NoStatements, Then, PartTree, NoPart, Part}
use Rattle.types.specs.CallFaults.{calls, block_calls, part_calls}
use Rattle.types.specs.Judgement.{calls_from, all_calls}
use Rattle.types.specs.Names.{number_in, member_names, procedure_names, monitor_names, external_names}
use Rattle.types.specs.Pieces.{Piece, pieces}
use Rattle.types.specs.Pieces.{first_piece, first_external}
use Rattle.types.specs.Scope.{Scope, unless_declared, procedure_number, inner_procedure, external_procedure}
use Rattle.types.specs.Scope.{own_procedure, first_found, callee_number, callee}
use Rattle.callees.proofs.Few.{members_within, before_within, all_pieces}
use Rattle.callees.proofs.Found.{text_within, undeclared}

summed : (k : ℕ) (o : Option ℕ) (n : ℕ) → option_map (λ i. k + i) o ≡ Some n → (i : ℕ) × (o ≡ Some i) × (k + i ≡ n)
summed k None n e = let w : None ≡ Some n = e in cc
summed k (Some i) n e = (i, refl, let w : Some (k + i) ≡ Some n = e in cc)

inner_of : (u : UnitTree) (m : ℕ) (name : NameTree) (n : ℕ) (o : Option MonitorTree) → slice_get u.monitors m ≡ o
    → option_map (λ i. first_piece u m + i) (procedure_number o name) ≡ Some n → n < length (pieces u)
inner_of u m name n None at e = let w : None ≡ Some n = e in cc
inner_of u m name n (Some t) at e =
    let s = summed (first_piece u m) (procedure_number (Some t) name) n e in
    let h = text_within (procedure_names t) name.text s.0 (undeclared (number_in (member_names t) name)
    (number_in (procedure_names t) name) s.0 s.1) in
    let f = length-map t.procedures (λ q. q.procedure.name) in
    let g = before_within 0 u.monitors m t at in
    let k = all_pieces u in
    omega (arith, h, f, g, k, s.2)

inner_within : (u : UnitTree) (m : ℕ) (name : NameTree) (n : ℕ) → inner_procedure u m name ≡ Some n
    → n < length (pieces u)
inner_within u m name n e = inner_of u m name n (slice_get u.monitors m) refl e

external_within : (u : UnitTree) (name : NameTree) (n : ℕ) → external_procedure u name ≡ Some n → n < length (pieces u)
external_within u name n e =
    let s = summed (first_external u) (unless_declared (number_in (monitor_names u) name)
    (number_in (external_names u) name)) n e in
    let h = text_within (external_names u) name.text s.0 (undeclared (number_in (monitor_names u) name)
    (number_in (external_names u) name) s.0 s.1) in
    let f = length-map u.procedures (λ q. q.name) in
    let k = all_pieces u in
    omega (arith, h, f, k, s.2)

own_within : (s : Scope) (o : Option ℕ) (name : NameTree) (n : ℕ) → own_procedure s o name ≡ Some n
    → n < length (pieces s.unit)
own_within s None name n e = let w : None ≡ Some n = e in cc
own_within s (Some m) name n e = inner_within s.unit m name n e

found_within : (o p : Option ℕ) (k n : ℕ) → ((i : ℕ) → o ≡ Some i → i < k) → ((i : ℕ) → p ≡ Some i → i < k)
    → first_found o p ≡ Some n → n < k
found_within None p k n f g e = g n e
found_within (Some i) p k n f g e = f n e

dotted_within : (u : UnitTree) (o : Option ℕ) (name : NameTree) (n : ℕ)
    → option_and_then (λ m. inner_procedure u m name) o ≡ Some n → n < length (pieces u)
dotted_within u None name n e = let w : None ≡ Some n = e in cc
dotted_within u (Some m) name n e = inner_within u m name n e

named_within : (s : Scope) (name : NameTree) (dotted : Option NameTree) (n : ℕ) → callee_number s name dotted ≡ Some n
    → n < length (pieces s.unit)
named_within s name None n e = found_within (own_procedure s (own_monitor s.piece.role) name)
    (external_procedure s.unit name) (length (pieces s.unit)) n
    (own_within s (own_monitor s.piece.role) name) (external_within s.unit name) e
named_within s name (Some dotted) n e = dotted_within s.unit (number_in (monitor_names s.unit) name) dotted n e

-- a piece that is called is one of the unit
abbrev IsPiece : Scope → ℕ → Type 0
IsPiece s n = n < length (pieces s.unit)

listed : (s : Scope) (o : Option ℕ) → ((n : ℕ) → o ≡ Some n → IsPiece s n) → All (IsPiece s) (option_to_list o)
listed s None h = All-nil (IsPiece s)
listed s (Some n) h = All-cons (IsPiece s) n [] (h n refl) (All-nil (IsPiece s))

mutual
  statement : (s : Scope) (t : StatementTree) → All (IsPiece s) (calls s t)
  statement s (Assign v e) = All-nil (IsPiece s)
  statement s (If place e ss rest) = All-append (IsPiece s) (block_calls s ss) (part_calls s rest) (block s ss)
      (part s rest)
  statement s (While place e ss) = block s ss
  statement s (CallOf place c into) = listed s (callee s c) (named_within s c.name c.dotted)
  statement s (Fork place c into) = All-nil (IsPiece s)
  statement s (Join place e into rest) = part s rest
  statement s (Return place e) = All-nil (IsPiece s)
  statement s (Wait place name) = All-nil (IsPiece s)
  statement s (Notify place name) = All-nil (IsPiece s)
  statement s (Broadcast place name) = All-nil (IsPiece s)
  statement s (Print place e) = All-nil (IsPiece s)
  statement s (Abort place) = All-nil (IsPiece s)

  block : (s : Scope) (ss : StatementTrees) → All (IsPiece s) (block_calls s ss)
  block s NoStatements = All-nil (IsPiece s)
  block s (Then first rest) = All-append (IsPiece s) (calls s first) (block_calls s rest) (statement s first)
      (block s rest)

  part : (s : Scope) (p : PartTree) → All (IsPiece s) (part_calls s p)
  part s NoPart = All-nil (IsPiece s)
  part s (Part ss) = block s ss

abbrev IsInside : ℕ → Call → Type 0
IsInside n c = (c.caller < n) × (c.callee < n)

from_within : (u : UnitTree) (n : ℕ) (qs : List Piece) → n + length qs ≤ length (pieces u)
    → All (IsInside (length (pieces u))) (calls_from u n qs)
from_within u n [] h = All-nil (IsInside (length (pieces u)))
from_within u n (q ∷ qs) h =
    let s : Scope = record { unit = u; piece = q } in
    let inside = block s q.body.statements in
    All-append (IsInside (length (pieces u)))
    (map (λ k. record { caller = n; callee = k }) (block_calls s q.body.statements)) (calls_from u (n + 1) qs)
    (All-map (IsInside (length (pieces u))) (λ k. record { caller = n; callee = k }) (block_calls s q.body.statements)
    (λ i d l. (omega (arith, h), inside i d l)))
    (from_within u (n + 1) qs (omega (arith, h)))

-- the calls of a unit are among its pieces
pub calls_within : (u : UnitTree) → Within (all_calls u) (length (pieces u))
calls_within u = from_within u 0 (pieces u) (omega arith)

-- the members and procedures of a monitor are among all
pub monitor_within : (u : UnitTree) (i : ℕ) (t : MonitorTree) → slice_get u.monitors i ≡ Some t
    → length t.members + length t.procedures ≤ length (flat_map (λ m. m.members) u.monitors) + length (pieces u)
monitor_within u i t e =
    let f = members_within u.monitors i t e in
    let g = before_within 0 u.monitors i t e in
    let h = all_pieces u in
    omega arith
