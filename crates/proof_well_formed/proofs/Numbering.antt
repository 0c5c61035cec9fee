-- What stands where among the pieces of a unit.
use Rattle.std.proofs.Common.{◌≡◌, ℕ, zero, suc, ◌+◌, List, [], ◌∷◌, ◌++◌, length, map, take, slice_get, Option, Some}
use Rattle.std.proofs.Common.{None, refl, sym, subst, arith, ◌⊎◌, inl, inr, length-append, Contains}
use Rattle.std.proofs.lemmas.List.{length-map}
use Rattle.program.specs.declared.kinds.Role.TheVariants.{Recover, External, Main}
use Rattle.syntax.specs.Tree.{MonitorProcedureTree, RecoverTree, ProcedureTree, MonitorTree, UnitTree}
use Rattle.types.specs.Pieces.{Piece, piece_of, part_of, role_of, recover_pieces, monitor_pieces, pieces_from, pieces}
use Rattle.proof_well_formed.proofs.Lists.{cut, front, behind, mapped, some_same, contains_at}

-- a piece of a monitor among monitors, the first of which has this number
abbrev pub InMonitors : ℕ → List MonitorTree → ℕ → Piece → Type 0
InMonitors first ts n q = (j : ℕ) × (t : MonitorTree) × (slice_get ts j ≡ Some t) × (k : ℕ)
    × (n ≡ length (pieces_from first (take j ts)) + k) × (slice_get (monitor_pieces (first + j) t) k ≡ Some q)

pub in_monitors : (first : ℕ) (ts : List MonitorTree) (n : ℕ) (q : Piece)
    → slice_get (pieces_from first ts) n ≡ Some q → InMonitors first ts n q
in_monitors first [] n q h = cc
in_monitors first (t ∷ ts) n q h =
    elim (cut (monitor_pieces first t) (pieces_from (first + 1) ts) n q h) [
      | inl g ↦ let e : first ≡ first + 0 = omega arith in
          (0, t, refl, n, omega arith, subst (λ m. slice_get (monitor_pieces m t) n ≡ Some q) e g)
      | inr g ↦
          let r = in_monitors (first + 1) ts g.0 q g.2 in
          let e : first + 1 + r.0 ≡ first + suc r.0 = omega arith in
          let a : n ≡ length (monitor_pieces first t) + g.0 = g.1 in
          let b : g.0 ≡ length (pieces_from (first + 1) (take r.0 ts)) + r.3 = r.4 in
          let c : length (monitor_pieces first t ++ pieces_from (first + 1) (take r.0 ts))
          ≡ length (monitor_pieces first t) + length (pieces_from (first + 1) (take r.0 ts)) =
          length-append (monitor_pieces first t) (pieces_from (first + 1) (take r.0 ts)) in (
            suc r.0,
            r.1,
            r.2,
            r.3,
            omega (arith, a, b, c),
            subst (λ m. slice_get (monitor_pieces m r.1) r.3 ≡ Some q) e r.5,
          )
    ]

pub placed : (first : ℕ) (ts : List MonitorTree) (n : ℕ) (q : Piece) (j : ℕ) (t : MonitorTree) (k : ℕ)
    → slice_get ts j ≡ Some t → n ≡ length (pieces_from first (take j ts)) + k
    → slice_get (monitor_pieces (first + j) t) k ≡ Some q → slice_get (pieces_from first ts) n ≡ Some q
placed first [] n q j t k h e g = cc
placed first (z ∷ ts) n q zero t k h e g =
    let f : first + 0 ≡ first = omega arith in
    let i : k ≡ n = omega (arith, e) in
    front (monitor_pieces first z) (pieces_from (first + 1) ts) n q
    (subst (λ x. slice_get (monitor_pieces first x) n ≡ Some q) (sym (some_same z t h))
    (subst (λ m. slice_get (monitor_pieces first t) m ≡ Some q) i
    (subst (λ m. slice_get (monitor_pieces m t) k ≡ Some q) f g)))
placed first (z ∷ ts) n q (suc j) t k h e g =
    let f : first + suc j ≡ first + 1 + j = omega arith in
    let c : length (monitor_pieces first z ++ pieces_from (first + 1) (take j ts))
    ≡ length (monitor_pieces first z) + length (pieces_from (first + 1) (take j ts)) =
    length-append (monitor_pieces first z) (pieces_from (first + 1) (take j ts)) in
    let m : ℕ = length (pieces_from (first + 1) (take j ts)) + k in
    behind (monitor_pieces first z) (pieces_from (first + 1) ts) n m q (omega (arith, e, c))
    (placed (first + 1) ts m q j t k h refl (subst (λ x. slice_get (monitor_pieces x t) k ≡ Some q) f g))

-- a procedure of a monitor, or its RECOVER part
abbrev pub InMonitor : ℕ → MonitorTree → ℕ → Piece → Type 0
InMonitor m t k q = ((x : MonitorProcedureTree) × (slice_get t.procedures k ≡ Some x)
    × (piece_of (role_of x.access m) x.procedure ≡ q))
    ⊎ ((r : RecoverTree) × (t.recover ≡ Some r) × (k ≡ length t.procedures)
    × (part_of (Recover m) r.place r.body ≡ q))

recovering : (m : ℕ) (o : Option RecoverTree) (i : ℕ) (q : Piece) → slice_get (recover_pieces m o) i ≡ Some q
    → (r : RecoverTree) × (o ≡ Some r) × (i ≡ 0) × (part_of (Recover m) r.place r.body ≡ q)
recovering m None i q h = cc
recovering m (Some r) zero q h = (r, refl, refl, some_same (part_of (Recover m) r.place r.body) q h)
recovering m (Some r) (suc i) q h = cc

pub in_monitor : (m : ℕ) (t : MonitorTree) (k : ℕ) (q : Piece) → slice_get (monitor_pieces m t) k ≡ Some q
    → InMonitor m t k q
in_monitor m t k q h =
    let f : MonitorProcedureTree → Piece = λ x. piece_of (role_of x.access m) x.procedure in
    elim (cut (map f t.procedures) (recover_pieces m t.recover) k q h) [
      | inl g ↦ inl (mapped f t.procedures k q g)
      | inr g ↦
          let r = recovering m t.recover g.0 q g.2 in
          let a : k ≡ length (map f t.procedures) + g.0 = g.1 in
          let b : length (map f t.procedures) ≡ length t.procedures = length-map t.procedures f in
          let c : g.0 ≡ 0 = r.2 in
          inr (r.0, r.1, omega (arith, a, b, c), r.3)
    ]

lone : {X : Type 0} (x : X) (i : ℕ) (y : X) → slice_get (x ∷ []) i ≡ Some y → (i ≡ 0) × (x ≡ y)
lone x zero y h = (refl, some_same x y h)
lone x (suc i) y h = cc

-- which piece of a unit has a number
abbrev pub IsPiece : UnitTree → ℕ → Piece → Type 0
IsPiece u n q = ((j : ℕ) × (t : MonitorTree) × (slice_get u.monitors j ≡ Some t) × (k : ℕ)
    × (n ≡ length (pieces_from 0 (take j u.monitors)) + k) × InMonitor j t k q)
    ⊎ (((x : ProcedureTree) × Contains u.procedures x × (piece_of External x ≡ q))
    ⊎ ((n + 1 ≡ length (pieces u)) × (part_of Main u.place u.body ≡ q)))

pub piece_at : (u : UnitTree) (n : ℕ) (q : Piece) → slice_get (pieces u) n ≡ Some q → IsPiece u n q
piece_at u n q h =
    let inner : List Piece = pieces_from 0 u.monitors in
    let outer : List Piece = map (piece_of External) u.procedures in
    let last : List Piece = part_of Main u.place u.body ∷ [] in
    elim (cut (inner ++ outer) last n q h) [
      | inl g ↦ elim (cut inner outer n q g) [
        | inl f ↦
            let r = in_monitors 0 u.monitors n q f in
            let e : 0 + r.0 ≡ r.0 = omega arith in
            inl (
              r.0,
              r.1,
              r.2,
              r.3,
              r.4,
              in_monitor r.0 r.1 r.3 q
                  (subst (λ m. slice_get (monitor_pieces m r.1) r.3 ≡ Some q) e r.5),
            )
        | inr f ↦ let r = mapped (piece_of External) u.procedures f.0 q f.2 in
            inr (inl (r.0, contains_at u.procedures f.0 r.0 r.1, r.2))
      ]
      | inr g ↦
          let a : n ≡ length (inner ++ outer) + g.0 = g.1 in
          let b : length (pieces u) ≡ length (inner ++ outer) + 1 = length-append (inner ++ outer) last in
          let r = lone (part_of Main u.place u.body) g.0 q g.2 in
          let c : g.0 ≡ 0 = r.0 in
          inr (inr (omega (arith, a, b, c), r.1))
    ]
