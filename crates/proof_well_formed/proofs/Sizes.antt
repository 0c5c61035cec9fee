-- What the limits of a unit say of the resolved program.
use Rattle.std.proofs.Common.{◌≡◌, ℕ, zero, suc, ◌+◌, ◌<◌, ◌≤◌, List, [], ◌∷◌, ◌++◌, length, map, flat_map, take}
use Rattle.std.proofs.Common.{slice_get, Option, Some, None, refl, sym, ap, ◌∙◌, subst, arith, true, false, cond}
use Rattle.std.proofs.Common.{Contains, sum_by, nat_lt, inl, inr, ltb-true, length-append}
use Rattle.std.proofs.lemmas.Bool.{and_parts}
use Rattle.std.proofs.lemmas.List.{length-map, take_all}
use Rattle.std.proofs.lemmas.List.Sums.{sum_by-cons, sum_by-append}
use Rattle.std.proofs.lemmas.List.Elements.{Contains-append_left, Contains-append_right}
use Rattle.std.specs.Prelude.{⊤}
use Rattle.scanner.specs.declared.token.Place.{Place}
use Rattle.program.specs.declared.kinds.MemberType.{MemberType}
use Rattle.program.specs.Trees.{Monitor}
use Rattle.program.specs.declared.kinds.Role.TheVariants.{External, Main}
use Rattle.syntax.specs.declared.leaf.Number.{Number}
use Rattle.std.proofs.Common.{option_map}
use Rattle.program.specs.WellFormed.{member_words, words_of, all_words, HasElements}
use Rattle.syntax.specs.declared.declaration.MemberType.{MemberType as MemberKind}
use Rattle.syntax.specs.declared.declaration.MemberType.TheVariants as M
use Rattle.syntax.specs.Lexeme.{NameTree}
use Rattle.syntax.specs.Tree.{MemberTree, MonitorTree, RecoverTree, UnitTree}
use Rattle.types.specs.Judgement.{IsPast, is_size, kind_words, IsNoSize}
use Rattle.types.specs.Kinds.{member_kind, member_kinds}
use Rattle.types.specs.Limits.{most_elements}
use Rattle.types.specs.Names.{all_members, procedure_names, external_names, all_procedure_names}
use Rattle.types.specs.Pieces.{part_of, recover_pieces, monitor_pieces, pieces_from, piece_of, role_of, pieces}
use Rattle.types.specs.Resolved.{monitor, monitors_from}
use Rattle.proof_well_formed.proofs.Lists.{there, within_or_past, contains_at, some_same, mapped, first_in, later_in}
use Rattle.proof_well_formed.proofs.Meanings.{monitors_at}

-- where no name has so many before it, there are no more
pub not_past : (most : ℕ) (names : List NameTree) → ((place : Place) → IsPast most names place → ⊥)
    → length names ≤ most
not_past most names h = elim (within_or_past (length names) most) [
  | inl g ↦ g
  | inr g ↦ let x = there names most g in absurd (h x.0.place (most, x.0, x.1, omega arith, refl))
]

-- where a sum isn't past a limit with any element, it is within it
pub not_past_sum : {X : Type 0} (f : X → ℕ) (most : ℕ) (xs : List X) → ((i : ℕ) (x : X) → slice_get xs i ≡ Some x
    → most < sum_by f (take (i + 1) xs) → ⊥) → sum_by f xs ≤ most
not_past_sum f most [] h = omega arith
not_past_sum f most (z ∷ zs) h = elim (within_or_past (sum_by f (z ∷ zs)) most) [
  | inl g ↦ g
  | inr g ↦
      let x = there (z ∷ zs) (length zs) (omega arith) in
      let e : take (length zs + 1) (z ∷ zs) ≡ z ∷ zs = take_all (length zs + 1) (z ∷ zs) (omega arith) in
      absurd (h (length zs) x.0 x.1 (subst (λ ys. most < sum_by f ys) (sym e) g))
]

-- an array has a size that is allowed
abbrev pub IsSized : MemberKind → Type 0
IsSized (M.Array n) = is_size n.value ≡ true
IsSized _ = ⊤

sized_kind : (k : MemberKind) → ((n : Number) → k ≡ M.Array n → is_size n.value ≡ false → ⊥) → IsSized k
sized_kind M.Integer h = tt
sized_kind M.Boolean h = tt
sized_kind M.Process h = tt
sized_kind M.Condition h = tt
sized_kind (M.Array n) h = elim (is_size n.value) as (λ b. (b ≡ false → ⊥) → b ≡ true) [
  | true ↦ λ _. refl
  | false ↦ λ g. absurd (g refl)
] (h n refl)

pub sized : (u : UnitTree) → ((place : Place) → IsNoSize u place → ⊥) → (x : MemberTree) → Contains (all_members u) x
    → IsSized x.kind
sized u h x c = sized_kind x.kind (λ n e f. h n.place (x, c, n, e, f, refl))

words_same : (k : MemberKind) → IsSized k → member_words (member_kind k) ≡ kind_words k
words_same M.Integer h = refl
words_same M.Boolean h = refl
words_same M.Process h = refl
words_same M.Condition h = refl
words_same (M.Array n) h = sym (ap (λ b. cond b n.value 1) h)

members_words : (ms : List MemberTree) → ((x : MemberTree) → Contains ms x → IsSized x.kind)
    → words_of (member_kinds ms) ≡ sum_by (λ y. kind_words y.kind) ms
members_words [] h = refl
members_words (m ∷ ms) h =
    let a : member_words (member_kind m.kind) ≡ kind_words m.kind = words_same m.kind (h m (first_in m ms)) in
    let b : words_of (member_kinds ms) ≡ sum_by (λ y. kind_words y.kind) ms =
    members_words ms (λ x c. h x (later_in m x ms c)) in
    let c : sum_by (λ y. kind_words y.kind) (m ∷ ms) ≡ kind_words m.kind + sum_by (λ y. kind_words y.kind) ms =
    sum_by-cons (λ y. kind_words y.kind) m ms in
    omega (arith, a, b, c)

-- the words of the resolved members are those of the declared ones
pub all_words_same : (u : UnitTree) (first : ℕ) (ts : List MonitorTree)
    → ((x : MemberTree) → Contains (flat_map (λ m. m.members) ts) x → IsSized x.kind)
    → all_words (monitors_from u first ts) ≡ sum_by (λ y. kind_words y.kind) (flat_map (λ m. m.members) ts)
all_words_same u first [] h = refl
all_words_same u first (t ∷ ts) h =
    let rest : List MemberTree = flat_map (λ m. m.members) ts in
    let a : words_of (member_kinds t.members) ≡ sum_by (λ y. kind_words y.kind) t.members =
    members_words t.members (λ x c. h x (Contains-append_left t.members rest x c)) in
    let b : all_words (monitors_from u (first + 1) ts) ≡ sum_by (λ y. kind_words y.kind) rest =
    all_words_same u (first + 1) ts (λ x c. h x (Contains-append_right t.members rest x c)) in
    let c : sum_by (λ y. kind_words y.kind) (t.members ++ rest)
    ≡ sum_by (λ y. kind_words y.kind) t.members + sum_by (λ y. kind_words y.kind) rest =
    sum_by-append (λ y. kind_words y.kind) t.members rest in
    omega (arith, a, b, c)

size_bounds : (n : ℕ) → is_size n ≡ true → (1 ≤ n) × (n ≤ 1024)
size_bounds n h =
    let p = and_parts (nat_lt 0 n) (nat_lt n (most_elements + 1)) h in
    let a : 0 < n = ltb-true 0 n p.0 in
    let b : n < 1025 = ltb-true n (most_elements + 1) p.1 in
    (omega (arith, a), omega (arith, b))

has_elements : (k : MemberKind) → IsSized k → HasElements (member_kind k)
has_elements M.Integer h = tt
has_elements M.Boolean h = tt
has_elements M.Process h = tt
has_elements M.Condition h = tt
has_elements (M.Array n) h = size_bounds n.value h

member_in_all : (ts : List MonitorTree) (m n : ℕ) (t : MonitorTree) (x : MemberTree) → slice_get ts m ≡ Some t
    → slice_get t.members n ≡ Some x → Contains (flat_map (λ m. m.members) ts) x
member_in_all [] m n t x e f = cc
member_in_all (z ∷ ts) zero n t x e f = Contains-append_left z.members (flat_map (λ m. m.members) ts) x
    (contains_at z.members n x (ap (λ y. slice_get y.members n) (some_same z t e) ∙ f))
member_in_all (z ∷ ts) (suc m) n t x e f = Contains-append_right z.members (flat_map (λ m. m.members) ts) x
    (member_in_all ts m n t x e f)

-- a monitor of the resolved program is one of the unit
resolved_monitor : (u : UnitTree) (m : ℕ) (o : Option MonitorTree) (y : Monitor)
    → option_map (monitor u (0 + m)) o ≡ Some y → (t : MonitorTree) × (o ≡ Some t) × (monitor u (0 + m) t ≡ y)
resolved_monitor u m None y e = cc
resolved_monitor u m (Some t) y e = (t, refl, some_same (monitor u (0 + m) t) y e)

pub monitor_of : (u : UnitTree) (m : ℕ) (y : Monitor) → slice_get (monitors_from u 0 u.monitors) m ≡ Some y
    → (t : MonitorTree) × (slice_get u.monitors m ≡ Some t) × (monitor u (0 + m) t ≡ y)
monitor_of u m y e = resolved_monitor u m (slice_get u.monitors m) y (sym (monitors_at u 0 u.monitors m) ∙ e)

pub arrays_sized : (u : UnitTree) → ((x : MemberTree) → Contains (all_members u) x → IsSized x.kind)
    → (m : ℕ) (y : Monitor) (n : ℕ) (k : MemberType) → slice_get (monitors_from u 0 u.monitors) m ≡ Some y
    → slice_get y.members n ≡ Some k → HasElements k
arrays_sized u h m y n k e f =
    let t = monitor_of u m y e in
    let g : slice_get (member_kinds t.0.members) n ≡ Some k = ap (λ z. slice_get z.members n) t.2 ∙ f in
    let x = mapped (λ x. member_kind x.kind) t.0.members n k g in
    subst HasElements x.2 (has_elements x.0.kind (h x.0 (member_in_all u.monitors m n t.0 x.0 t.1 x.1)))

recover_length : (m : ℕ) (o : Option RecoverTree) → length (recover_pieces m o) ≤ 1
recover_length m None = omega arith
recover_length m (Some r) = omega arith

inner_length : (first : ℕ) (ts : List MonitorTree)
    → length (pieces_from first ts) ≤ length (flat_map procedure_names ts) + length ts
inner_length first [] = omega arith
inner_length first (t ∷ ts) =
    let procedures = map (λ q. piece_of (role_of q.access first) q.procedure) t.procedures in
    let a : length procedures ≡ length t.procedures =
    length-map t.procedures (λ q. piece_of (role_of q.access first) q.procedure) in
    let b : length (procedure_names t) ≡ length t.procedures = length-map t.procedures (λ q. q.procedure.name) in
    let c : length (recover_pieces first t.recover) ≤ 1 = recover_length first t.recover in
    let d : length (monitor_pieces first t) ≡ length procedures + length (recover_pieces first t.recover) =
    length-append procedures (recover_pieces first t.recover) in
    let e : length (monitor_pieces first t ++ pieces_from (first + 1) ts)
    ≡ length (monitor_pieces first t) + length (pieces_from (first + 1) ts) =
    length-append (monitor_pieces first t) (pieces_from (first + 1) ts) in
    let f : length (procedure_names t ++ flat_map procedure_names ts)
    ≡ length (procedure_names t) + length (flat_map procedure_names ts) =
    length-append (procedure_names t) (flat_map procedure_names ts) in
    let g : length (pieces_from (first + 1) ts) ≤ length (flat_map procedure_names ts) + length ts =
    inner_length (first + 1) ts in
    omega (arith, a, b, c, d, e, f, g)

-- the pieces are the procedures, at most one RECOVER part of each monitor, and MAIN
pub pieces_length : (u : UnitTree) → length (pieces u) ≤ length (all_procedure_names u) + length u.monitors + 1
pieces_length u =
    let outer = map (piece_of External) u.procedures in
    let inner = pieces_from 0 u.monitors in
    let last = part_of Main u.place u.body ∷ [] in
    let a : length outer ≡ length u.procedures = length-map u.procedures (piece_of External) in
    let b : length (external_names u) ≡ length u.procedures = length-map u.procedures (λ q. q.name) in
    let c : length (inner ++ outer) ≡ length inner + length outer = length-append inner outer in
    let d : length (pieces u) ≡ length (inner ++ outer) + 1 = length-append (inner ++ outer) last in
    let e : length (all_procedure_names u) ≡ length (flat_map procedure_names u.monitors) + length (external_names u) =
    length-append (flat_map procedure_names u.monitors) (external_names u) in
    let f : length inner ≤ length (flat_map procedure_names u.monitors) + length u.monitors =
    inner_length 0 u.monitors in
    omega (arith, a, b, c, d, e, f)

pub monitors_length : (u : UnitTree) (first : ℕ) (ts : List MonitorTree) → length (monitors_from u first ts) ≡ length ts
monitors_length u first [] = refl
monitors_length u first (t ∷ ts) = ap suc (monitors_length u (first + 1) ts)
