-- What a unit of few declarations has few of.
use Rattle.std.proofs.Common.{◌≡◌, ℕ, ◌<◌, ◌≤◌, ◌+◌, ◌-◌, ◌^◌, zero, suc, List, [], ◌∷◌, ◌++◌, length, map, take, drop}
use Rattle.std.proofs.Common.{Option, Some, None, ap, subst, arith, length-append, slice_get}
use Rattle.std.specs.List.{Contains, All, flat_map, sum_by}
use Rattle.std.proofs.lemmas.List.Sums.{sum_by_more_le}
use Rattle.std.proofs.lemmas.List.{take-append-drop, length-map, get_or-map}
use Rattle.std.proofs.Common.{get_or}
use Rattle.std.proofs.lemmas.List.Elements.{All-nil, All-cons, All-append, All-map}
use Rattle.program.specs.declared.kinds.Role.TheVariants.{External, Main, Recover}
use Rattle.program.specs.Scope.{own_monitor}
use Rattle.syntax.specs.declared.declaration.Access.{Access}
use Rattle.syntax.specs.declared.declaration.Access.TheVariants as A
use Rattle.syntax.specs.Tree.{RecoverTree, MonitorTree, UnitTree}
use Rattle.syntax.specs.View.{parameter_of, local_of}
use Rattle.types.specs.Pieces.{Piece, piece_of, role_of, part_of, recover_pieces, monitor_pieces, pieces, pieces_from}
use Rattle.types.specs.Pieces.{first_piece, first_external}
use Rattle.types.specs.Names.{parameter_names, body_scope}
use Rattle.callees.specs.declared.piece.Piece.{Piece as PieceOf}
use Rattle.callees.specs.Names.{declarations}
use Rattle.callees.specs.Pieces.{piece_of as piece_seen, AreFew}
use Rattle.callees.proofs.Growing.{pieces_append}

-- no more pieces are in the first monitors than in all
first_pieces : (ts : List MonitorTree) (i : ℕ) → length (pieces_from 0 (take i ts)) ≤ length (pieces_from 0 ts)
first_pieces ts i =
    let e : length (pieces_from 0 (take i ts ++ drop i ts)) ≡ length (pieces_from 0 ts) =
    ap (λ xs. length (pieces_from 0 xs)) (take-append-drop i ts) in
    let f : length (pieces_from 0 (take i ts ++ drop i ts)) ≡ length (pieces_from 0 (take i ts)
    ++ pieces_from (0 + length (take i ts)) (drop i ts)) = ap length (pieces_append 0 (take i ts) (drop i ts)) in
    let g = length-append (pieces_from 0 (take i ts)) (pieces_from (0 + length (take i ts)) (drop i ts)) in
    omega arith

pub members_within : (ts : List MonitorTree) (i : ℕ) (t : MonitorTree) → slice_get ts i ≡ Some t
    → length t.members ≤ length (flat_map (λ m. m.members) ts)
members_within [] i t e = let w : None ≡ Some t = e in cc
members_within (x ∷ ts) zero t e =
    let same : x ≡ t = cc in
    let g = length-append x.members (flat_map (λ m. m.members) ts) in
    subst (λ y. length y.members ≤ length (x.members ++ flat_map (λ m. m.members) ts)) same (omega arith)
members_within (x ∷ ts) (suc i) t e =
    let h = members_within ts i t e in
    let g = length-append x.members (flat_map (λ m. m.members) ts) in
    omega arith

own_pieces : (k : ℕ) (t : MonitorTree) → length t.procedures ≤ length (monitor_pieces k t)
own_pieces k t =
    let f = length-map t.procedures (λ q. piece_of (role_of q.access k) q.procedure) in
    let g = length-append (map (λ q. piece_of (role_of q.access k) q.procedure) t.procedures)
    (recover_pieces k t.recover) in
    omega arith

pub before_within : (k : ℕ) (ts : List MonitorTree) (i : ℕ) (t : MonitorTree) → slice_get ts i ≡ Some t
    → length (pieces_from k (take i ts)) + length t.procedures ≤ length (pieces_from k ts)
before_within k [] i t e = let w : None ≡ Some t = e in cc
before_within k (x ∷ ts) zero t e =
    let same : x ≡ t = cc in
    let g = length-append (monitor_pieces k x) (pieces_from (k + 1) ts) in
    let h = own_pieces k x in
    subst (λ y. 0 + length y.procedures ≤ length (monitor_pieces k x ++ pieces_from (k + 1) ts)) same (omega arith)
before_within k (x ∷ ts) (suc i) t e =
    let h = before_within (k + 1) ts i t e in
    let f = length-append (monitor_pieces k x) (pieces_from (k + 1) (take i ts)) in
    let g = length-append (monitor_pieces k x) (pieces_from (k + 1) ts) in
    omega arith

pub all_pieces : (u : UnitTree) → length (pieces_from 0 u.monitors) + length u.procedures + 1 ≡ length (pieces u)
all_pieces u =
    let f = length-map u.procedures (piece_of External) in
    let g = length-append (pieces_from 0 u.monitors) (map (piece_of External) u.procedures) in
    let h = length-append (pieces_from 0 u.monitors ++ map (piece_of External) u.procedures)
    (part_of Main u.place u.body ∷ []) in
    omega arith

pub few_pieces : (u : UnitTree) (i : ℕ) → declarations u < 2 ^ 32 - 1
    → length (pieces_from 0 (take i u.monitors)) < 2 ^ 32 - 1
few_pieces u i h = let f = first_pieces u.monitors i in let g = all_pieces u in omega arith

pub few_members : (u : UnitTree) (i : ℕ) (t : MonitorTree) → declarations u < 2 ^ 32 - 1
    → slice_get u.monitors i ≡ Some t → length t.members < 2 ^ 32 - 1
few_members u i t h e = let g = members_within u.monitors i t e in omega arith

-- the pieces before a monitor, and its procedures
pub few_procedures : (u : UnitTree) (i : ℕ) (t : MonitorTree) → declarations u < 2 ^ 32 - 1
    → slice_get u.monitors i ≡ Some t → first_piece u i + length t.procedures < 2 ^ 32 - 1
few_procedures u i t h e =
    let f = before_within 0 u.monitors i t e in let g = all_pieces u in omega arith

-- the pieces before the external procedures, and those
pub few_externals : (u : UnitTree) → declarations u < 2 ^ 32 - 1
    → first_external u + length u.procedures < 2 ^ 32 - 1
few_externals u h = let g = all_pieces u in omega arith

abbrev IsWithin : ℕ → Piece → Type 0
IsWithin n q = (m : ℕ) → own_monitor q.role ≡ Some m → m < n

role_within : (a : Access) (k m : ℕ) → own_monitor (role_of a k) ≡ Some m → k ≡ m
role_within A.Entry k m e = cc
role_within A.Internal k m e = cc

recover_within : (n k : ℕ) (r : Option RecoverTree) → k < n → All (IsWithin n) (recover_pieces k r)
recover_within n k None lt = All-nil (IsWithin n)
recover_within n k (Some r) lt = All-cons (IsWithin n) (part_of (Recover k) r.place r.body) []
    (λ m e. let same : k ≡ m = cc in omega arith) (All-nil (IsWithin n))

all_within : (n k : ℕ) (ts : List MonitorTree) → k + length ts ≤ n → All (IsWithin n) (pieces_from k ts)
all_within n k [] le = All-nil (IsWithin n)
all_within n k (t ∷ ts) le = All-append (IsWithin n) (monitor_pieces k t) (pieces_from (k + 1) ts)
    (All-append (IsWithin n) (map (λ q. piece_of (role_of q.access k) q.procedure) t.procedures)
    (recover_pieces k t.recover)
    (All-map (IsWithin n) (λ q. piece_of (role_of q.access k) q.procedure) t.procedures
    (λ i d lt m e. let same = role_within _ k m e in omega arith))
    (recover_within n k t.recover (omega arith))) (all_within n (k + 1) ts (omega arith))

-- the monitor that a piece belongs to is one of the unit's
pub own_within : (u : UnitTree) (q : Piece) (m : ℕ) → Contains (pieces u) q → own_monitor q.role ≡ Some m
    → m < length u.monitors
own_within u q m c e =
    let n = length u.monitors in
    let all : All (IsWithin n) (pieces u) = All-append (IsWithin n)
    (pieces_from 0 u.monitors ++ map (piece_of External) u.procedures) (part_of Main u.place u.body ∷ [])
    (All-append (IsWithin n) (pieces_from 0 u.monitors) (map (piece_of External) u.procedures)
    (all_within n 0 u.monitors (omega arith))
    (All-map (IsWithin n) (piece_of External) u.procedures (λ i d lt k w. let v : None ≡ Some k = w in cc)))
    (All-cons (IsWithin n) (part_of Main u.place u.body) [] (λ k w. let v : None ≡ Some k = w in cc)
    (All-nil (IsWithin n))) in
    subst (IsWithin n) c.2 (all c.0 q c.1) m e

slots_of : (p : PieceOf) → length (body_scope (piece_seen p).parameters (piece_seen p).body.locals)
    ≡ length p.parameters.now + length p.body.now.locals.items
slots_of p =
    let ps = map parameter_of p.parameters.now in
    let ls = map local_of p.body.now.locals.items in
    let a = length-append (parameter_names ps) (map (λ l. l.name) ls) in
    let b = length-map ps (λ x. x.name) in
    let c = length-map ls (λ l. l.name) in
    let d = length-map p.parameters.now parameter_of in
    let e = length-map p.body.now.locals.items local_of in
    omega arith

pub few_in_all : (u : UnitTree) (ps : List PieceOf) → declarations u < 2 ^ 32 - 1 → map piece_seen ps ≡ pieces u
    → AreFew ps
few_in_all u ps h e =
    let slots : Piece → ℕ = λ q. length (body_scope q.parameters q.body.locals) in
    let a : length (map piece_seen ps) ≡ length (pieces u) = ap length e in
    let b : sum_by slots (map piece_seen ps) ≡ sum_by slots (pieces u) = ap (sum_by slots) e in
    let c = length-map ps piece_seen in (
      omega arith,
      λ k d lt.
          let f = sum_by_more_le slots (map piece_seen ps) k (piece_seen d) (omega arith) in
          let g : slots (get_or (map piece_seen ps) k (piece_seen d)) ≡ slots (piece_seen (get_or ps k d)) =
          ap slots (get_or-map piece_seen ps k d (piece_seen d) lt) in
          let s = slots_of (get_or ps k d) in
          omega arith,
    )
