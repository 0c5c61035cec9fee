-- One step of each walk over names or members.
use Rattle.std.proofs.Common.{◌≡◌, ℕ, ◌<◌, ◌≤◌, ◌+◌, ◌-◌, List, [], ◌∷◌, ◌++◌, Option, Some, None, length, take}
use Rattle.std.proofs.Common.{get_or}
use Rattle.std.proofs.Common.{map, refl, sym, ap, ◌∙◌, subst, arith, Bool, true, not, is_none, is_some}
use Rattle.std.specs.Prelude.{IsTrue, sum_by, nat_lt}
use Rattle.std.proofs.lemmas.Bool.{ltb-true, lt-ltb}
use Rattle.std.proofs.lemmas.List.{length-take-le, length-map, take_more, get_or-map}
use Rattle.std.proofs.lemmas.List.Sums.{sum_by_push}
use Rattle.scanner.specs.declared.refusal.Refusal.{Refusal}
use Rattle.scanner.specs.declared.refusal.RefusalKind.TheVariants.{Redeclared, Limit}
use Rattle.syntax.specs.declared.leaf.Name.{Name}
use Rattle.syntax.specs.declared.declaration.Member.{Member}
use Rattle.syntax.specs.Tree.{MemberTree}
use Rattle.syntax.specs.View.{name_of, member_of}
use Rattle.types.specs.declared.table.Table.{Table}
use Rattle.types.specs.Faults.{fault}
use Rattle.types.specs.Judgement.{kind_words}
use Rattle.types.specs.Limits.{most_member_words}
use Rattle.types.specs.Names.{number_in}
use Rattle.types.specs.Tables.{IsTable}
use Rattle.unit_faults.specs.Collected.{Collects, OfKind}
use Rattle.unit_faults.specs.Members.{IsNoSizeIn}
use Rattle.unit_faults.proofs.Collecting.{collects_same}
use Rattle.unit_faults.proofs.Along.{Along, along_next}
use Rattle.unit_faults.proofs.Relations.{RepeatedAt, PastAt, WordsAt, SizeAt}

-- the first elements of what a list says
pub taken : {X Y : Type 0} (f : X → Y) (xs : List X) (i : ℕ) → i ≤ length xs → length (take i (map f xs)) ≡ i
taken f xs i h = length-take-le i (map f xs) (omega (arith, h, length-map xs f))

pub past_step : (most : ℕ) (names : List Name) (i : ℕ) (d : Name) (a b c : Option Refusal) → most ≤ i
    → i < length names
    → Collects (Along (PastAt most) (take i (map name_of names))) a b
    → Collects (λ e. IsTrue true × (e ≡ fault Limit (get_or names i d).place)) b c
    → Collects (Along (PastAt most) (take (i + 1) (map name_of names))) a c
past_step most names i d a b c m h k l =
    along_next name_of (PastAt most) names i d a b c h k
    (collects_same (λ e. IsTrue true × (e ≡ fault Limit (get_or names i d).place))
    (PastAt most (take i (map name_of names)) (name_of (get_or names i d))) b c
    (λ e w. (omega (arith, m, taken name_of names i (omega (arith, h))), w.1)) (λ e w. (refl, w.1)) l)

words_more : (xs : List MemberTree) (i : ℕ) (x : MemberTree) → i < length xs
    → sum_by (λ y. kind_words y.kind) (take (i + 1) xs)
    ≡ sum_by (λ y. kind_words y.kind) (take i xs) + kind_words (get_or xs i x).kind
words_more xs i x h = ap (sum_by (λ y. kind_words y.kind)) (take_more xs i x h)
    ∙ sum_by_push (λ y. kind_words y.kind) (take i xs) (get_or xs i x)

-- what is left of the words
pub words_left : (ms : List Member) (i : ℕ) (d : Member) (left words : ℕ) → i < length ms
    → left ≡ most_member_words - sum_by (λ y. kind_words y.kind) (take i (map member_of ms))
    → words ≡ kind_words (get_or ms i d).kind
    → left - words ≡ most_member_words - sum_by (λ y. kind_words y.kind) (take (i + 1) (map member_of ms))
words_left ms i d left words h l w =
    let same : get_or (map member_of ms) i (member_of d) ≡ member_of (get_or ms i d) = get_or-map member_of ms i d
    (member_of d) h in
    let more = words_more (map member_of ms) i (member_of d) (omega (arith, h, length-map ms member_of)) in
    let named : kind_words (get_or (map member_of ms) i (member_of d)).kind ≡ words =
    ap (λ x. kind_words x.kind) same ∙ sym w in
    omega (arith, more, l, named)

passes : (left words sum : ℕ) → 0 < words → left ≡ most_member_words - sum → IsTrue (nat_lt left words)
    → most_member_words < sum + words
passes left words sum p l t = let lt : left < words = ltb-true left words t in omega (arith, p, l, lt)

is_less : (left words sum : ℕ) → 0 < words → left ≡ most_member_words - sum → most_member_words < sum + words
    → IsTrue (nat_lt left words)
is_less left words sum p l h = lt-ltb left words (omega (arith, p, l, h))

pub words_step : (ms : List Member) (i : ℕ) (d : Member) (left words : ℕ) (a b c : Option Refusal) → i < length ms
    → 0 < words
    → left ≡ most_member_words - sum_by (λ y. kind_words y.kind) (take i (map member_of ms))
    → words ≡ kind_words (get_or ms i d).kind
    → Collects (Along WordsAt (take i (map member_of ms))) a b
    → Collects (λ e. IsTrue (nat_lt left words) × (e ≡ fault Limit (get_or ms i d).name.place)) b c
    → Collects (Along WordsAt (take (i + 1) (map member_of ms))) a c
words_step ms i d left words a b c h p l w k o =
    let sum = sum_by (λ y. kind_words y.kind) (take i (map member_of ms)) in
    along_next member_of WordsAt ms i d a b c h k
    (collects_same (λ e. IsTrue (nat_lt left words) × (e ≡ fault Limit (get_or ms i d).name.place))
    (WordsAt (take i (map member_of ms)) (member_of (get_or ms i d))) b c
    (λ e v. (subst (λ n. most_member_words < sum + n) w (passes left words sum p l v.0), v.1))
    (λ e v. (is_less left words sum p l (subst (λ n. most_member_words < sum + n) (sym w) v.0), v.1)) o)

pub size_step : (ms : List Member) (i : ℕ) (d : Member) (a b c : Option Refusal) → i < length ms
    → Collects (Along SizeAt (take i (map member_of ms))) a b
    → Collects (OfKind Limit (IsNoSizeIn (get_or ms i d).kind)) b c
    → Collects (Along SizeAt (take (i + 1) (map member_of ms))) a c
size_step ms i d a b c h k l = along_next member_of SizeAt ms i d a b c h k l

not_none : (o : Option ℕ) → not (is_none o) ≡ is_some o
not_none None = refl
not_none (Some n) = refl

pub names_table : (names : List Name) (i : ℕ) (d : Name) (t : Table) → i < length names
    → IsTable (take i (map name_of names) ++ name_of (get_or names i d) ∷ []) t
    → IsTable (take (i + 1) (map name_of names)) t
names_table names i d t h k =
    subst (λ ns. IsTable ns t) (sym (take_more (map name_of names) i (name_of d) (omega
    (arith, h, length-map names name_of))
    ∙ ap (λ n. take i (map name_of names) ++ n ∷ []) (get_or-map name_of names i d (name_of d) h))) k

pub repeated_step : (names : List Name) (i : ℕ) (d : Name) (fresh : Bool) (a b c : Option Refusal) → i < length names
    → fresh ≡ is_none (number_in (take i (map name_of names)) (name_of (get_or names i d)))
    → Collects (Along RepeatedAt (take i (map name_of names))) a b
    → Collects (λ e. IsTrue (not fresh) × (e ≡ fault Redeclared (get_or names i d).place)) b c
    → Collects (Along RepeatedAt (take (i + 1) (map name_of names))) a c
repeated_step names i d fresh a b c h f k l =
    let o = number_in (take i (map name_of names)) (name_of (get_or names i d)) in
    let same : not fresh ≡ is_some o = ap not f ∙ not_none o in
    along_next name_of RepeatedAt names i d a b c h k
    (collects_same (λ e. IsTrue (not fresh) × (e ≡ fault Redeclared (get_or names i d).place))
    (RepeatedAt (take i (map name_of names)) (name_of (get_or names i d))) b c
    (λ e w. (sym same ∙ w.0, w.1)) (λ e w. (same ∙ w.0, w.1)) l)
