-- What callees name.
use Rattle.std.proofs.Common.{◌≡◌, ℕ, ◌+◌, ◌<◌, [], ◌∷◌, ◌++◌, length, map, slice_get, Option, Some}
use Rattle.std.proofs.Common.{None, refl, sym, ap, ◌∙◌, subst, arith, option_map, option_and_then, true}
use Rattle.std.proofs.Common.{is_some, ◌⊎◌, inl, inr}
use Rattle.std.proofs.lemmas.List.{length-map}
use Rattle.std.proofs.lemmas.Option.{slice_get-map}
use Rattle.program.specs.declared.kinds.Role.TheVariants.{External, Main}
use Rattle.program.specs.Scope.{own_monitor}
use Rattle.syntax.specs.declared.declaration.Access.{Access}
use Rattle.syntax.specs.declared.declaration.Access.TheVariants as A
use Rattle.syntax.specs.Lexeme.{NameTree}
use Rattle.syntax.specs.Tree.{MonitorTree, MonitorProcedureTree, UnitTree, CalleeTree}
use Rattle.types.specs.Names.{number_in, procedure_names, member_names, external_names, monitor_names}
use Rattle.types.specs.Pieces.{Piece, piece_of, part_of, role_of, recover_pieces, monitor_pieces, pieces_from, pieces}
use Rattle.types.specs.Pieces.{first_piece, first_external}
use Rattle.types.specs.Scope.{Scope, unless_declared, procedure_number, inner_procedure, external_procedure}
use Rattle.types.specs.Scope.{own_procedure, first_found, callee_number, callee}
use Rattle.proof_well_formed.proofs.Agreement.{IsFound}
use Rattle.proof_well_formed.proofs.Lists.{front, behind, there, some_same}
use Rattle.proof_well_formed.proofs.Meanings.{found_within}
use Rattle.proof_well_formed.proofs.Numbering.{placed}
use Rattle.proof_well_formed.proofs.Free.{true_false}

undeclared : (a b : Option ℕ) (n : ℕ) → unless_declared a b ≡ Some n → b ≡ Some n
undeclared (Some m) b n e = cc
undeclared None b n e = e

added : (k : ℕ) (o : Option ℕ) (n : ℕ) → option_map (λ i. k + i) o ≡ Some n → (i : ℕ) × (o ≡ Some i) × (n ≡ k + i)
added k None n e = cc
added k (Some i) n e = (i, refl, sym (some_same (k + i) n e))

-- a procedure of a monitor
abbrev pub HasInner : UnitTree → ℕ → ℕ → Type 0
HasInner u m n = (x : MonitorProcedureTree)
    × (slice_get (pieces u) n ≡ Some (piece_of (role_of x.access m) x.procedure))

inner_at : (u : UnitTree) (m : ℕ) (name : NameTree) (n : ℕ) (o : Option MonitorTree) → slice_get u.monitors m ≡ o
    → option_map (λ i. first_piece u m + i) (procedure_number o name) ≡ Some n → HasInner u m n
inner_at u m name n None e h = cc
inner_at u m name n (Some t) e h =
    let g = added (first_piece u m) (procedure_number (Some t) name) n h in
    let i : ℕ = g.0 in
    let f : number_in (procedure_names t) name ≡ Some i =
    undeclared (number_in (member_names t) name) (number_in (procedure_names t) name) i g.1 in
    let w : i < length (procedure_names t) = found_within (procedure_names t) name.text i f in
    let l : length (procedure_names t) ≡ length t.procedures = length-map t.procedures (λ q. q.procedure.name) in
    let x = there t.procedures i (omega (arith, w, l)) in
    let v : MonitorProcedureTree → Piece = λ y. piece_of (role_of y.access m) y.procedure in
    let p : Piece = v x.0 in
    let k : slice_get (map v t.procedures) i ≡ Some p = slice_get-map v t.procedures i ∙ ap (option_map v) x.1 in
    let z : m ≡ 0 + m = omega arith in (
      x.0,
      front (pieces_from 0 u.monitors ++ map (piece_of External) u.procedures) (part_of Main u.place u.body ∷ []) n
          p (front (pieces_from 0 u.monitors) (map (piece_of External) u.procedures) n p
          (placed 0 u.monitors n p m t i e g.2 (subst (λ j. slice_get (monitor_pieces j t) i ≡ Some p) z
          (front (map v t.procedures) (recover_pieces m t.recover) i p k)))),
    )

has_inner : (u : UnitTree) (m : ℕ) (name : NameTree) (n : ℕ) → inner_procedure u m name ≡ Some n → HasInner u m n
has_inner u m name n h = inner_at u m name n (slice_get u.monitors m) refl h

is_external : (u : UnitTree) (name : NameTree) (n : ℕ) (q : Piece) → external_procedure u name ≡ Some n
    → slice_get (pieces u) n ≡ Some q → q.role ≡ External
is_external u name n q h at =
    let names = external_names u in
    let g = added (first_external u) (unless_declared (number_in (monitor_names u) name) (number_in names name)) n h in
    let i : ℕ = g.0 in
    let f : number_in names name ≡ Some i = undeclared (number_in (monitor_names u) name) (number_in names name) i
    g.1 in
    let w : i < length names = found_within names name.text i f in
    let l : length names ≡ length u.procedures = length-map u.procedures (λ q. q.name) in
    let x = there u.procedures i (omega (arith, w, l)) in
    let p : Piece = piece_of External x.0 in
    let k : slice_get (map (piece_of External) u.procedures) i ≡ Some p =
    slice_get-map (piece_of External) u.procedures i ∙ ap (option_map (piece_of External)) x.1 in
    let r : slice_get (pieces u) n ≡ Some p =
    front (pieces_from 0 u.monitors ++ map (piece_of External) u.procedures) (part_of Main u.place u.body ∷ []) n p
    (behind (pieces_from 0 u.monitors) (map (piece_of External) u.procedures) n i p g.2 k) in
    ap (λ y. y.role) (some_same q p (sym at ∙ r))

inner_role : (u : UnitTree) (m n : ℕ) (q : Piece) → HasInner u m n → slice_get (pieces u) n ≡ Some q
    → (a : Access) × (q.role ≡ role_of a m)
inner_role u m n q x at = (
  x.0.access,
  ap (λ y. y.role) (some_same q (piece_of (role_of x.0.access m) x.0.procedure)
      (sym at ∙ x.1)),
)

-- a procedure of the own monitor
own_found : (s : Scope) (c : CalleeTree) (m : ℕ) (a : Access) → own_monitor s.piece.role ≡ Some m
    → IsFound s c (role_of a m)
own_found s c m A.Entry e = tt
own_found s c m A.Internal e = λ _. e

dotted_found : (s : Scope) (c : CalleeTree) (m : ℕ) (a : Access) → is_some c.dotted ≡ true
    → IsFound s c (role_of a m)
dotted_found s c m A.Entry e = tt
dotted_found s c m A.Internal e = λ f. absurd (true_false (sym e ∙ f))

-- the first of two that are found
first_of_two : (a b : Option ℕ) (n : ℕ) → first_found a b ≡ Some n → (a ≡ Some n) ⊎ (b ≡ Some n)
first_of_two (Some m) b n e = inl e
first_of_two None b n e = inr e

own_at : (s : Scope) (c : CalleeTree) (o : Option ℕ) (n : ℕ) (q : Piece) → own_monitor s.piece.role ≡ o
    → own_procedure s o c.name ≡ Some n → slice_get (pieces s.unit) n ≡ Some q → IsFound s c q.role
own_at s c None n q e h at = cc
own_at s c (Some m) n q e h at =
    let r = inner_role s.unit m n q (has_inner s.unit m c.name n h) at in
    subst (IsFound s c) (sym r.1) (own_found s c m r.0 e)

dotted_at : (s : Scope) (c : CalleeTree) (name : NameTree) (o : Option ℕ) (n : ℕ) (q : Piece)
    → is_some c.dotted ≡ true → option_and_then (λ m. inner_procedure s.unit m name) o ≡ Some n
    → slice_get (pieces s.unit) n ≡ Some q → IsFound s c q.role
dotted_at s c name None n q d h at = cc
dotted_at s c name (Some m) n q d h at =
    let r = inner_role s.unit m n q (has_inner s.unit m name n h) at in
    subst (IsFound s c) (sym r.1) (dotted_found s c m r.0 d)

found_at : (s : Scope) (c : CalleeTree) (o : Option NameTree) (n : ℕ) (q : Piece) → c.dotted ≡ o
    → callee_number s c.name o ≡ Some n → slice_get (pieces s.unit) n ≡ Some q → IsFound s c q.role
found_at s c None n q d h at =
    elim (first_of_two (own_procedure s (own_monitor s.piece.role) c.name) (external_procedure s.unit c.name) n h) [
      | inl g ↦ own_at s c (own_monitor s.piece.role) n q refl g at
      | inr g ↦ subst (IsFound s c) (sym (is_external s.unit c.name n q g at)) tt
    ]
found_at s c (Some name) n q d h at =
    dotted_at s c name (number_in (monitor_names s.unit) c.name) n q (ap is_some d) h at

pub is_found : (s : Scope) (c : CalleeTree) (n : ℕ) (q : Piece) → callee s c ≡ Some n
    → slice_get (pieces s.unit) n ≡ Some q → IsFound s c q.role
is_found s c n q h at = found_at s c c.dotted n q refl h at
