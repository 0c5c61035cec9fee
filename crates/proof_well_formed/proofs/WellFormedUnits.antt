-- A unit without a fault is resolved to a well-formed program.
use Rattle.std.proofs.Common.{◌≡◌, ℕ, ◌+◌, ◌-◌, ◌<◌, ◌≤◌, List, [], ◌∷◌, ◌++◌, length, map, slice_get, Option}
use Rattle.std.proofs.Common.{Some, None, refl, sym, ap, ◌∙◌, subst, arith, option_map, length-append, Contains, sum_by}
use Rattle.std.proofs.lemmas.List.{length-map}
use Rattle.std.proofs.lemmas.Option.{slice_get-map}
use Rattle.program.specs.declared.kinds.Role.TheVariants.{Recover, External, Main}
use Rattle.program.specs.Measures.{block_calls}
use Rattle.program.specs.Scope.{recover_in}
use Rattle.program.specs.Trees.{Monitor, Procedure}
use Rattle.program.specs.WellFormed.{all_words, IsProper, IsAcyclic, WellFormed}
use Rattle.syntax.specs.Limits.{most_nestings}
use Rattle.syntax.specs.Nesting.{unit_nesting}
use Rattle.syntax.specs.Tree.{MonitorProcedureTree, MonitorTree, RecoverTree, UnitTree}
use Rattle.types.specs.Judgement.{all_calls, kind_words}
use Rattle.types.specs.Names.{all_members, all_procedure_names}
use Rattle.types.specs.Pieces.{Piece, piece_of, part_of, role_of, recover_pieces, monitor_pieces, pieces, pieces_from}
use Rattle.types.specs.Pieces.{first_piece}
use Rattle.types.specs.Resolved.{recover_piece, monitors_from, procedure, resolved}
use Rattle.proof_well_formed.specs.Faultless.{IsFaultless, HasNumbers}
use Rattle.proof_well_formed.proofs.Calls.{scope_at, block_calls_same, call_in}
use Rattle.proof_well_formed.proofs.Chains.{highest, highest_bound, higher}
use Rattle.proof_well_formed.proofs.Judged.{free, few_monitors, few_procedures, few_words, members_sized, no_long_chain}
use Rattle.proof_well_formed.proofs.Lists.{contains_at, mapped, behind, front, some_same}
use Rattle.proof_well_formed.proofs.Numbering.{placed}
use Rattle.proof_well_formed.proofs.Proper.{piece_proper}
use Rattle.proof_well_formed.proofs.Sizes.{all_words_same, arrays_sized, pieces_length, monitors_length, monitor_of}

-- a RECOVER part that is named is among the pieces
abbrev pub HasRecover : UnitTree → ℕ → ℕ → Type 0
HasRecover u m r = (q : Procedure) × (slice_get (resolved u).procedures r ≡ Some q) × (q.role ≡ Recover m)

resolved_at : (u : UnitTree) (n : ℕ) (q : Piece) → slice_get (pieces u) n ≡ Some q
    → slice_get (resolved u).procedures n ≡ Some (procedure u q)
resolved_at u n q at = slice_get-map (procedure u) (pieces u) n ∙ ap (option_map (procedure u)) at

recover_found : (u : UnitTree) (m r : ℕ) (t : MonitorTree) (o : Option RecoverTree) → slice_get u.monitors m ≡ Some t
    → t.recover ≡ o → recover_piece u (0 + m) t o ≡ Some r → HasRecover u m r
recover_found u m r t None e f h = cc
recover_found u m r t (Some x) e f h =
    let z : m ≡ 0 + m = omega arith in
    let v : MonitorProcedureTree → Piece = λ y. piece_of (role_of y.access m) y.procedure in
    let q : Piece = part_of (Recover m) x.place x.body in
    let outer : List Piece = map (piece_of External) u.procedures in
    let l : length (map v t.procedures) ≡ length t.procedures = length-map t.procedures v in
    let k : ℕ = length t.procedures in
    let a : slice_get (recover_pieces m t.recover) 0 ≡ Some q = ap (λ y. slice_get (recover_pieces m y) 0) f in
    let b : slice_get (monitor_pieces m t) k ≡ Some q =
    behind (map v t.procedures) (recover_pieces m t.recover) k 0 q (omega (arith, l)) a in
    let w : first_piece u (0 + m) + k ≡ r = some_same (first_piece u (0 + m) + k) r h in
    let y : r ≡ first_piece u m + k = sym (ap (λ i. first_piece u i + k) z ∙ w) in
    let c : slice_get (pieces u) r ≡ Some q =
    front (pieces_from 0 u.monitors ++ outer) (part_of Main u.place u.body ∷ []) r q
    (front (pieces_from 0 u.monitors) outer r q (placed 0 u.monitors r q m t k e y
    (subst (λ i. slice_get (monitor_pieces i t) k ≡ Some q) z b))) in
    (procedure u q, resolved_at u r q c, refl)

recover_in_unit : (u : UnitTree) (m r : ℕ) (o : Option Monitor) → slice_get (monitors_from u 0 u.monitors) m ≡ o
    → recover_in o ≡ Some r → HasRecover u m r
recover_in_unit u m r None e h = cc
recover_in_unit u m r (Some y) e h =
    let t = monitor_of u m y e in
    recover_found u m r t.0 t.0.recover t.1 refl (ap (λ x. x.recover) t.2 ∙ h)

last_piece : (u : UnitTree) → slice_get (pieces u) (length (pieces u) - 1) ≡ Some (part_of Main u.place u.body)
last_piece u =
    let before : List Piece = pieces_from 0 u.monitors ++ map (piece_of External) u.procedures in
    let q : Piece = part_of Main u.place u.body in
    let l : length (pieces u) ≡ length before + 1 = length-append before (q ∷ []) in
    behind before (q ∷ []) (length (pieces u) - 1) 0 q (omega (arith, l)) refl

module _ (u : UnitTree) (numbers : HasNumbers u) (within : unit_nesting u ≤ most_nestings) (f : IsFaultless u) where
  all_proper : (n : ℕ) (y : Procedure) → slice_get (resolved u).procedures n ≡ Some y → IsProper (resolved u) n y
  all_proper n y at = let p = mapped (procedure u) (pieces u) n y at in
      subst (IsProper (resolved u) n) p.2 (piece_proper u numbers within f n p.0 p.1)

  falls : (n callee : ℕ) (y : Procedure) → slice_get (resolved u).procedures n ≡ Some y
      → Contains (block_calls y.body) callee → highest (all_calls u) callee 14 < highest (all_calls u) n 14
  falls n callee y at c =
      let p = mapped (procedure u) (pieces u) n y at in
      let q : Piece = p.0 in
      let a : Contains (block_calls (procedure u q).body) callee =
      subst (λ z. Contains (block_calls z.body) callee) (sym p.2) c in
      let b = subst (λ xs. Contains xs callee) (block_calls_same (scope_at u q) q.body.statements
      (free u f q (contains_at (pieces u) n q p.1))) a in
      higher (all_calls u) n callee (call_in u 0 (pieces u) n q callee n (omega arith) p.1 b) (no_long_chain u f n)

  acyclic : IsAcyclic (resolved u)
  acyclic = record {
    height = λ n. highest (all_calls u) n 14;
    falls = falls;
    bounded = λ n. let h : highest (all_calls u) n 14 ≤ 14 = highest_bound (all_calls u) n 14 in omega (arith, h);
  }

  pub well_formed : WellFormed (resolved u)
  well_formed =
      let a : length (monitors_from u 0 u.monitors) ≡ length u.monitors = monitors_length u 0 u.monitors in
      let b : length u.monitors ≤ 64 = few_monitors u f in
      let c : all_words (monitors_from u 0 u.monitors) ≡ sum_by (λ y. kind_words y.kind) (all_members u) =
      all_words_same u 0 u.monitors (members_sized u f) in
      let d : sum_by (λ y. kind_words y.kind) (all_members u) ≤ 1024 = few_words u f in
      let e : length (map (procedure u) (pieces u)) ≡ length (pieces u) = length-map (pieces u) (procedure u) in
      let g : length (pieces u) ≤ length (all_procedure_names u) + length u.monitors + 1 = pieces_length u in
      let h : length (all_procedure_names u) ≤ 512 = few_procedures u f in
      let q : Piece = part_of Main u.place u.body in
      let i : length (pieces u) - 1 ≡ length (map (procedure u) (pieces u)) - 1 = ap (λ n. n - 1) (sym e) in
      record {
        monitors = omega (arith, a, b);
        words = omega (arith, c, d);
        arrays = arrays_sized u (members_sized u f);
        pieces = omega (arith, b, e, g, h);
        main = procedure u q;
        is_last = subst (λ n. slice_get (resolved u).procedures n ≡ Some (procedure u q)) i
            (resolved_at u (length (pieces u) - 1) q (last_piece u));
        is_main = refl;
        recovers = λ m r x. recover_in_unit u m r (slice_get (monitors_from u 0 u.monitors) m) refl x;
        procedures = all_proper;
        acyclic = acyclic;
      }
