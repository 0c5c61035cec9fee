-- A piece's statements have no more nestings than its unit.
use Rattle.std.proofs.Common.{◌≡◌, ℕ, zero, suc, ◌≤◌, List, [], ◌∷◌, max, slice_get, Some}
use Rattle.std.proofs.Common.{ap, arith, inl, inr}
use Rattle.syntax.specs.Nesting.{statements_nesting, procedures_nesting, monitor_procedures_nesting, recover_nesting}
use Rattle.syntax.specs.Nesting.{monitors_nesting, unit_nesting}
use Rattle.syntax.specs.Tree.{ProcedureTree, MonitorProcedureTree, MonitorTree, UnitTree}
use Rattle.types.specs.Pieces.{Piece}
use Rattle.proof_well_formed.proofs.Lists.{some_same, place_of}
use Rattle.proof_well_formed.proofs.Numbering.{InMonitor, IsPiece}

abbrev pub nesting_of : Piece → ℕ
nesting_of q = statements_nesting q.body.statements

in_procedures : (ps : List ProcedureTree) (i : ℕ) (x : ProcedureTree) → slice_get ps i ≡ Some x
    → statements_nesting x.body.statements ≤ procedures_nesting ps
in_procedures [] i x h = cc
in_procedures (z ∷ ps) zero x h =
    let e : statements_nesting z.body.statements ≡ statements_nesting x.body.statements =
    ap (λ y. statements_nesting y.body.statements) (some_same z x h) in omega (arith, e)
in_procedures (z ∷ ps) (suc i) x h =
    let g : statements_nesting x.body.statements ≤ procedures_nesting ps = in_procedures ps i x h in omega (arith, g)

in_inner : (ps : List MonitorProcedureTree) (i : ℕ) (x : MonitorProcedureTree) → slice_get ps i ≡ Some x
    → statements_nesting x.procedure.body.statements ≤ monitor_procedures_nesting ps
in_inner [] i x h = cc
in_inner (z ∷ ps) zero x h =
    let e : statements_nesting z.procedure.body.statements ≡ statements_nesting x.procedure.body.statements =
    ap (λ y. statements_nesting y.procedure.body.statements) (some_same z x h) in omega (arith, e)
in_inner (z ∷ ps) (suc i) x h =
    let g : statements_nesting x.procedure.body.statements ≤ monitor_procedures_nesting ps = in_inner ps i x h in
    omega (arith, g)

abbrev pub own_nesting : MonitorTree → ℕ
own_nesting t = max (monitor_procedures_nesting t.procedures) (recover_nesting t.recover)

in_all : (ts : List MonitorTree) (j : ℕ) (t : MonitorTree) → slice_get ts j ≡ Some t
    → own_nesting t ≤ monitors_nesting ts
in_all [] j t h = cc
in_all (z ∷ ts) zero t h = let e : own_nesting z ≡ own_nesting t = ap own_nesting (some_same z t h) in omega (arith, e)
in_all (z ∷ ts) (suc j) t h = let g : own_nesting t ≤ monitors_nesting ts = in_all ts j t h in omega (arith, g)

in_own : (m : ℕ) (t : MonitorTree) (k : ℕ) (q : Piece) → InMonitor m t k q → nesting_of q ≤ own_nesting t
in_own m t k q h = elim h [
  | inl g ↦
      let a : statements_nesting g.0.procedure.body.statements ≤ monitor_procedures_nesting t.procedures =
      in_inner t.procedures k g.0 g.1 in
      let e : statements_nesting g.0.procedure.body.statements ≡ nesting_of q = ap nesting_of g.2 in
      omega (arith, a, e)
  | inr g ↦
      let a : recover_nesting t.recover ≡ statements_nesting g.0.body.statements = ap recover_nesting g.1 in
      let e : statements_nesting g.0.body.statements ≡ nesting_of q = ap nesting_of g.3 in
      omega (arith, a, e)
]

pub piece_nesting : (u : UnitTree) (n : ℕ) (q : Piece) → IsPiece u n q → nesting_of q ≤ unit_nesting u
piece_nesting u n q h = elim h [
  | inl g ↦
      let a : nesting_of q ≤ own_nesting g.1 = in_own g.0 g.1 g.3 q g.5 in
      let b : own_nesting g.1 ≤ monitors_nesting u.monitors = in_all u.monitors g.0 g.1 g.2 in
      omega (arith, a, b)
  | inr g ↦ elim g [
    | inl f ↦
        let p = place_of u.procedures f.0 f.1 in
        let a : statements_nesting f.0.body.statements ≤ procedures_nesting u.procedures =
        in_procedures u.procedures p.0 f.0 p.1 in
        let e : statements_nesting f.0.body.statements ≡ nesting_of q = ap nesting_of f.2 in
        omega (arith, a, e)
    | inr f ↦
        let e : statements_nesting u.body.statements ≡ nesting_of q = ap nesting_of f.1 in
        omega (arith, e)
  ]
]
