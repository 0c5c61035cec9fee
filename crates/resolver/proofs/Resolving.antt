-- Monitors, one more of which is resolved.
use Rattle.std.proofs.Common.{◌≡◌, ◌<◌, ◌+◌, ℕ, suc, List, [], ◌∷◌, ◌++◌, Option, Some, None, length}
use Rattle.std.proofs.Common.{map, take, get_or, refl, ap, ◌∙◌, sym, arith, add-zero}
use Rattle.std.specs.Prelude.{option_map}
use Rattle.std.proofs.lemmas.List.{take_more, map-append, length-map, length-take-le}
use Rattle.std.proofs.lemmas.Option.{slice_get_read}
use Rattle.program.specs.declared.unit.Monitor.{Monitor as MonitorOf}
use Rattle.program.specs.Views as p
use Rattle.syntax.specs.declared.declaration.Monitor.{Monitor as Tree}
use Rattle.syntax.specs.Tree.{RecoverTree, MonitorTree, UnitTree}
use Rattle.syntax.specs.View.{monitor_of}
use Rattle.types.specs.Pieces.{first_piece}
use Rattle.types.specs.Resolved.{recover_piece, monitor, monitors_from}
use Rattle.callees.specs.declared.monitor_names.MonitorNames.{MonitorNames}
use Rattle.callees.specs.declared.callees.Callees.{Callees}
use Rattle.callees.specs.Names.{IsCallees}

-- the number of a monitor's first piece
pub first_here : (u : UnitTree) (c : Callees) (i : ℕ) (n : MonitorNames) → IsCallees u c → i < length u.monitors
    → n ≡ get_or c.inner.items i n → n.first_piece ≡ first_piece u i
first_here u c i n k lt is =
    let e = k.all in
    (k.inner i n (slice_get_read c.inner.items (length c.inner.items) i n refl (omega arith) is)).3

-- the piece of a RECOVER part stands behind the procedures
pub recover_there : (u : UnitTree) (m : ℕ) (t : MonitorTree) (n : ℕ) (o : Option RecoverTree)
    → n ≡ first_piece u m + length t.procedures → option_map (λ _. n) o ≡ recover_piece u m t o
recover_there u m t n None e = refl
recover_there u m t n (Some r) e = ap Some e

monitors_append : (u : UnitTree) (m : ℕ) (ts : List MonitorTree) (t : MonitorTree)
    → monitors_from u m (ts ++ t ∷ []) ≡ monitors_from u m ts ++ monitor u (m + length ts) t ∷ []
monitors_append u m [] t = ap (λ k. monitor u k t ∷ []) (sym (add-zero m))
monitors_append u m (x ∷ ts) t =
    let e : m + 1 + length ts ≡ m + suc (length ts) = omega arith in
    ap (λ l. monitor u m x ∷ l) (monitors_append u (m + 1) ts t
    ∙ ap (λ k. monitors_from u (m + 1) ts ++ monitor u k t ∷ []) e)

-- one more monitor
pub monitors_step : (u : UnitTree) (xs new : List MonitorOf) (x : MonitorOf) (ys : List Tree) (i : ℕ) (y : Tree)
    → i < length ys → y ≡ get_or ys i y → new ≡ xs ++ x ∷ [] → p.monitor_of x ≡ monitor u i (monitor_of y)
    → map p.monitor_of xs ≡ monitors_from u 0 (map monitor_of (take i ys))
    → map p.monitor_of new ≡ monitors_from u 0 (map monitor_of (take (i + 1) ys))
monitors_step u xs new x ys i y lt is pushed same before =
    let ts = map monitor_of (take i ys) in
    let f = length-map (take i ys) monitor_of in
    let g = length-take-le i ys (omega arith) in
    let counted : 0 + length ts ≡ i = omega arith in
    ap (map p.monitor_of) pushed ∙ map-append p.monitor_of xs (x ∷ [])
    ∙ ap (λ l. l ++ p.monitor_of x ∷ []) before
    ∙ ap (λ z. monitors_from u 0 ts ++ z ∷ []) (same ∙ ap (λ z. monitor u i (monitor_of z)) is)
    ∙ ap (λ k. monitors_from u 0 ts ++ monitor u k (monitor_of (get_or ys i y)) ∷ []) (sym counted)
    ∙ sym (ap (λ l. monitors_from u 0 (map monitor_of l)) (take_more ys i y lt)
    ∙ ap (monitors_from u 0) (map-append monitor_of (take i ys) (get_or ys i y ∷ []))
    ∙ monitors_append u 0 ts (monitor_of (get_or ys i y)))
