-- The pieces of a unit without a fault are resolved to proper procedures.
use Rattle.std.proofs.Common.{◌≡◌, ℕ, ◌+◌, ◌<◌, ◌≤◌, ◌++◌, length, map, take, slice_get, Option, Some}
use Rattle.std.proofs.Common.{None, refl, ap, ◌∙◌, subst, arith, inl, inr, option_map, length-append}
use Rattle.std.proofs.lemmas.List.{length-map}
use Rattle.std.proofs.lemmas.Option.{slice_get_within}
use Rattle.program.specs.declared.kinds.ValueType.TheVariants.{Process}
use Rattle.program.specs.Scope.{scope_of, recover_in, recover_of}
use Rattle.program.specs.Trees.{Procedure}
use Rattle.program.specs.WellFormed.{RoleFits, IsProper}
use Rattle.syntax.specs.declared.declaration.Access.{Access}
use Rattle.syntax.specs.declared.declaration.Access.TheVariants as A
use Rattle.syntax.specs.declared.declaration.ResultType.{ResultType}
use Rattle.syntax.specs.declared.declaration.ResultType.TheVariants as R
use Rattle.syntax.specs.Limits.{most_nestings}
use Rattle.syntax.specs.Nesting.{unit_nesting, statements_nesting}
use Rattle.syntax.specs.Tree.{MonitorTree, RecoverTree, UnitTree}
use Rattle.types.specs.Kinds.{local_kind, result_kind, parameter_kinds, locals_kinds}
use Rattle.types.specs.Names.{parameter_names, body_scope}
use Rattle.types.specs.Pieces.{Piece, piece_of, role_of, pieces, pieces_from, first_piece}
use Rattle.types.specs.Resolved.{recover_piece, monitor, procedure, resolved}
use Rattle.proof_well_formed.specs.Faultless.{IsFaultless, HasNumbers}
use Rattle.proof_well_formed.proofs.Agreeing.{agrees}
use Rattle.proof_well_formed.proofs.Calls.{scope_at}
use Rattle.proof_well_formed.proofs.Judged.{free, few_parameters, few_locals}
use Rattle.proof_well_formed.proofs.Lists.{contains_at}
use Rattle.proof_well_formed.proofs.Meanings.{monitors_at}
use Rattle.proof_well_formed.proofs.Nestings.{piece_nesting}
use Rattle.proof_well_formed.proofs.Numbering.{InMonitor, IsPiece, piece_at}
use Rattle.proof_well_formed.proofs.Sizes.{monitors_length}
use Rattle.proof_well_formed.proofs.StatementRooms.{block_room_of}
use Rattle.proof_well_formed.proofs.StatementsFit.{block_fits}
use Rattle.proof_well_formed.proofs.UnitNumbers.{numbers_small, piece_small}

-- a piece's role fits its number
abbrev pub PieceFits : UnitTree → ℕ → Piece → Type 0
PieceFits u n q = RoleFits (resolved u) n (procedure u q) q.role

access_fits : (u : UnitTree) (n m : ℕ) (q : Procedure) (a : Access) → m < length u.monitors
    → RoleFits (resolved u) n q (role_of a m)
access_fits u n m q A.Entry h =
    let e : length (resolved u).monitors ≡ length u.monitors = monitors_length u 0 u.monitors in omega (arith, h, e)
access_fits u n m q A.Internal h =
    let e : length (resolved u).monitors ≡ length u.monitors = monitors_length u 0 u.monitors in omega (arith, h, e)

-- the number of a monitor's RECOVER part
pub recover_at : (u : UnitTree) (m : ℕ) (t : MonitorTree) (r : RecoverTree) → slice_get u.monitors m ≡ Some t
    → t.recover ≡ Some r → recover_of (resolved u) m ≡ Some (first_piece u m + length t.procedures)
recover_at u m t r e f =
    let z : 0 + m ≡ m = omega arith in
    ap recover_in (monitors_at u 0 u.monitors m ∙ ap (option_map (monitor u (0 + m))) e)
    ∙ ap (λ n. recover_piece u n t t.recover) z ∙ ap (recover_piece u m t) f

own_fits : (u : UnitTree) (n m : ℕ) (t : MonitorTree) (k : ℕ) (q : Piece) → slice_get u.monitors m ≡ Some t
    → n ≡ length (pieces_from 0 (take m u.monitors)) + k → InMonitor m t k q → PieceFits u n q
own_fits u n m t k q e at h = elim h [
  | inl x ↦ subst (PieceFits u n) x.2 (access_fits u n m (procedure u (piece_of (role_of x.0.access m) x.0.procedure))
      x.0.access (slice_get_within u.monitors m t e))
  | inr x ↦
      let a : k ≡ length t.procedures = x.2 in
      let g : first_piece u m + length t.procedures ≡ n = omega (arith, a, at) in
      subst (PieceFits u n) x.3 (recover_at u m t x.0 e x.1 ∙ ap (λ i. Some i) g, refl, refl)
]

piece_fits : (u : UnitTree) (n : ℕ) (q : Piece) → IsPiece u n q → PieceFits u n q
piece_fits u n q h = elim h [
  | inl g ↦ own_fits u n g.0 g.1 g.3 q g.2 g.4 g.5
  | inr g ↦ elim g [
    | inl f ↦ subst (PieceFits u n) f.2 tt
    | inr f ↦
        let a : n + 1 ≡ length (pieces u) = f.0 in
        let b : length (map (procedure u) (pieces u)) ≡ length (pieces u) = length-map (pieces u) (procedure u) in
        subst (PieceFits u n) f.1 (omega (arith, a, b), refl, refl)
  ]
]

no_process : (r : Option ResultType) → option_map result_kind r ≡ Some Process → ⊥
no_process None e = cc
no_process (Some R.Integer) e = cc
no_process (Some R.Boolean) e = cc

module _ (u : UnitTree) (numbers : HasNumbers u) (within : unit_nesting u ≤ most_nestings) (f : IsFaultless u) where
  pub piece_proper : (n : ℕ) (q : Piece) → slice_get (pieces u) n ≡ Some q → IsProper (resolved u) n (procedure u q)
  piece_proper n q at =
      let is = piece_at u n q at in
      let c = contains_at (pieces u) n q at in
      let ps = q.parameters in
      let ls = q.body.locals in
      let a : length (parameter_kinds ps) ≡ length ps = length-map ps (λ p. local_kind p.kind) in
      let b : length (locals_kinds ls) ≡ length ls = length-map ls (λ l. local_kind l.kind) in
      let d : length (parameter_kinds ps ++ locals_kinds ls) ≡ length (parameter_kinds ps) + length (locals_kinds ls) =
      length-append (parameter_kinds ps) (locals_kinds ls) in
      let e : length (parameter_names ps) ≡ length ps = length-map ps (λ p. p.name) in
      let g : length (map (λ l. l.name) ls) ≡ length ls = length-map ls (λ l. l.name) in
      let h : length (body_scope ps ls) ≡ length (parameter_names ps) + length (map (λ l. l.name) ls) =
      length-append (parameter_names ps) (map (λ l. l.name) ls) in
      let i : length ps ≤ 16 = few_parameters u f q c in
      let j : length (body_scope ps ls) ≤ 64 = few_locals u f q c in
      let k : statements_nesting q.body.statements ≤ unit_nesting u = piece_nesting u n q is in
      record {
        role = piece_fits u n q is;
        parameters = omega (arith, a, i);
        locals = omega (arith, a, b, d, e, g, h, j);
        result = no_process q.returns;
        body = block_fits (scope_at u q) (scope_of (resolved u) (procedure u q)) (agrees u f q) q.body.statements
            (free u f q c) (piece_small u n q (numbers_small u numbers) is);
        room = block_room_of (scope_at u q) (scope_of (resolved u) (procedure u q)) (agrees u f q) q.body.statements
            (free u f q c) (omega (arith, k, within));
      }
