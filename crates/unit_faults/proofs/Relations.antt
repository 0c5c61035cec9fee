-- The relations of a unit's faults, element by element.
use Rattle.std.proofs.Common.{◌≡◌, ℕ, ◌<◌, ◌≤◌, ◌+◌, List, [], ◌∷◌, Option, Some, length, take}
use Rattle.std.proofs.Common.{refl, sym, ap, ◌∙◌, subst, arith, is_some, not, Bool, true, false, zero, suc, get_or}
use Rattle.std.specs.Prelude.{slice_get, IsTrue, sum_by}
use Rattle.std.proofs.lemmas.Option.{none-some, slice_get_within, slice_get-get_or, get_or_from_slice_get}
use Rattle.std.proofs.lemmas.List.{length-take-le, take_more}
use Rattle.std.proofs.lemmas.List.Sums.{sum_by_push}
use Rattle.scanner.specs.declared.token.Place.{Place}
use Rattle.scanner.specs.declared.refusal.Refusal.{Refusal}
use Rattle.scanner.specs.declared.refusal.RefusalKind.{RefusalKind}
use Rattle.scanner.specs.declared.refusal.RefusalKind.TheVariants.{Redeclared, Limit}
use Rattle.syntax.specs.Lexeme.{NameTree}
use Rattle.syntax.specs.Tree.{MemberTree}
use Rattle.callees.proofs.Growing.{contains_at}
use Rattle.types.specs.Faults.{fault}
use Rattle.types.specs.Names.{number_in}
use Rattle.types.specs.Judgement.{IsRepeated, IsPast, is_size, kind_words}
use Rattle.syntax.specs.declared.leaf.Number.{Number}
use Rattle.syntax.specs.declared.declaration.MemberType.TheVariants.{Array}
use Rattle.types.specs.Limits.{most_member_words}
use Rattle.unit_faults.specs.Collected.{Collects, OfKind}
use Rattle.unit_faults.specs.Members.{IsPastWordsOf, IsNoSizeOf, IsNoSizeIn}
use Rattle.unit_faults.proofs.Collecting.{collects_none, collects_same}
use Rattle.unit_faults.proofs.Along.{Along}
use Rattle.unit_faults.proofs.Texts.{IsAmong, among, numbered}

-- a fault, by its parts
pub by_parts : (e : Refusal) (kind : RefusalKind) (place : Place) → e.kind ≡ kind → place ≡ e.place
    → e ≡ fault kind place
by_parts e kind place k p = ap (λ x. fault x e.place) k ∙ ap (λ x. fault kind x) (sym p)

-- a name that was declared before
abbrev pub RepeatedAt : List NameTree → NameTree → Refusal → Type 0
RepeatedAt before n e = IsTrue (is_some (number_in before n)) × (e ≡ fault Redeclared n.place)

-- a name that is past a limit
abbrev pub PastAt : ℕ → List NameTree → NameTree → Refusal → Type 0
PastAt most before n e = (most ≤ length before) × (e ≡ fault Limit n.place)

-- a member whose words are
abbrev pub WordsAt : List MemberTree → MemberTree → Refusal → Type 0
WordsAt before x e = (most_member_words < sum_by (λ y. kind_words y.kind) before + kind_words x.kind)
    × (e ≡ fault Limit x.name.place)

-- a member of a size that isn't allowed
abbrev pub SizeAt : List MemberTree → MemberTree → Refusal → Type 0
SizeAt before x e = OfKind Limit (IsNoSizeIn x.kind) e

earlier : {X : Type 0} (xs : List X) (j i : ℕ) (x : X) → slice_get (take j xs) i ≡ Some x
    → (i < j) × (slice_get xs i ≡ Some x)
earlier [] zero i x e = absurd (none-some x e)
earlier [] (suc j) i x e = absurd (none-some x e)
earlier (y ∷ ys) zero i x e = absurd (none-some x e)
earlier (y ∷ ys) (suc j) zero x e = (omega arith, e)
earlier (y ∷ ys) (suc j) (suc i) x e = let k = earlier ys j i x e in (omega (arith, k.0), k.1)

kept : {X : Type 0} (xs : List X) (j i : ℕ) (x : X) → i < j → slice_get xs i ≡ Some x
    → slice_get (take j xs) i ≡ Some x
kept [] j i x h e = absurd (none-some x e)
kept (y ∷ ys) zero i x h e = absurd (omega (arith, h))
kept (y ∷ ys) (suc j) zero x h e = e
kept (y ∷ ys) (suc j) (suc i) x h e = kept ys j i x (omega (arith, h)) e

pub repeated_to : (names : List NameTree) (e : Refusal) → Along RepeatedAt names e
    → OfKind Redeclared (IsRepeated names) e
repeated_to names e (j, second, g, (found, is)) =
    let w : IsAmong (take j names) second.text = among (take j names) second.text found in
    let before = earlier names j w.0 w.1 w.2 in
    (ap (λ x. x.kind) is, (w.0, j, w.1, second, before.0, before.1, g, w.3, ap (λ x. x.place) (sym is)))

pub repeated_from : (names : List NameTree) (e : Refusal) → OfKind Redeclared (IsRepeated names) e
    → Along RepeatedAt names e
repeated_from names e (k, (i, j, first, second, h, gi, gj, same, p)) = (
  j,
  second,
  gj,
  (
    numbered (take j names) second.text (i, first, kept names j i first h gi, same),
    by_parts e Redeclared second.place k p,
  ),
)

pub taken_within : {X : Type 0} (xs : List X) (i : ℕ) (x : X) → slice_get xs i ≡ Some x → length (take i xs) ≡ i
taken_within xs i x g = let h = slice_get_within xs i x g in length-take-le i xs (omega (arith, h))

pub past_to : (most : ℕ) (names : List NameTree) (e : Refusal) → Along (PastAt most) names e
    → OfKind Limit (IsPast most names) e
past_to most names e (i, n, g, (h, is)) =
    (ap (λ x. x.kind) is, (i, n, g, subst (λ m. most ≤ m) (taken_within names i n g) h, ap (λ x. x.place) (sym is)))

pub past_from : (most : ℕ) (names : List NameTree) (e : Refusal) → OfKind Limit (IsPast most names) e
    → Along (PastAt most) names e
past_from most names e (k, (i, n, g, h, p)) =
    (i, n, g, (subst (λ m. most ≤ m) (sym (taken_within names i n g)) h, by_parts e Limit n.place k p))

-- the names that are allowed
pub past_none : (most : ℕ) (names : List NameTree) (a : Option Refusal)
    → Collects (Along (PastAt most) (take most names)) a a
past_none most names a = collects_none (Along (PastAt most) (take most names)) a
    (λ e (i, n, g, (h, is)). let k = earlier names most i n g in
    let l = taken_within (take most names) i n g in omega (arith, k.0, h, l))

words_step : (xs : List MemberTree) (i : ℕ) (x : MemberTree) → slice_get xs i ≡ Some x
    → sum_by (λ y. kind_words y.kind) (take (i + 1) xs)
    ≡ sum_by (λ y. kind_words y.kind) (take i xs) + kind_words x.kind
words_step xs i x g =
    let h : i < length xs = slice_get_within xs i x g in
    ap (sum_by (λ y. kind_words y.kind)) (take_more xs i x h)
    ∙ sum_by_push (λ y. kind_words y.kind) (take i xs) _
    ∙ ap (λ z. sum_by (λ y. kind_words y.kind) (take i xs) + kind_words z.kind) (get_or_from_slice_get xs i x x g)

pub words_to : (ms : List MemberTree) (e : Refusal) → Along WordsAt ms e → OfKind Limit (IsPastWordsOf ms) e
words_to ms e (i, x, g, (h, is)) = (
  ap (λ z. z.kind) is,
  (
    i,
    x,
    g,
    subst (λ m. most_member_words < m) (sym (words_step ms i x g)) h,
    ap (λ z. z.place) (sym is),
  ),
)

pub words_from : (ms : List MemberTree) (e : Refusal) → OfKind Limit (IsPastWordsOf ms) e → Along WordsAt ms e
words_from ms e (k, (i, x, g, h, p)) =
    (i, x, g, (subst (λ m. most_member_words < m) (words_step ms i x g) h, by_parts e Limit x.name.place k p))

pub found : {X : Type 0} (xs : List X) (i : ℕ) (x : X) → i < length xs → get_or xs i x ≡ x → slice_get xs i ≡ Some x
found xs i x h e = slice_get-get_or xs i x h ∙ ap (λ z. Some z) e

pub sizes_to : (ms : List MemberTree) (e : Refusal) → Along SizeAt ms e → OfKind Limit (IsNoSizeOf ms) e
sizes_to ms e (i, x, g, (k, (n, is, h, p))) = (k, (x, contains_at ms i x g, n, is, h, p))

pub sizes_from : (ms : List MemberTree) (e : Refusal) → OfKind Limit (IsNoSizeOf ms) e → Along SizeAt ms e
sizes_from ms e (k, (x, (i, l, q), n, is, h, p)) = (i, x, found ms i x l q, (k, (n, is, h, p)))

opposite : (b : Bool) → not b ≡ true → b ≡ false
opposite false h = refl
opposite true h = sym h

same_number : (n m : Number) → Array n ≡ Array m → n ≡ m
same_number n m e = cc

-- the size of an array
pub size_of_array : (n : Number) (b : Bool) (a c : Option Refusal) → b ≡ is_size n.value
    → Collects (λ e. IsTrue (not b) × (e ≡ fault Limit n.place)) a c
    → Collects (OfKind Limit (IsNoSizeIn (Array n))) a c
size_of_array n b a c s h =
    collects_same (λ e. IsTrue (not b) × (e ≡ fault Limit n.place)) (OfKind Limit (IsNoSizeIn (Array n))) a c
    (λ e w. (ap (λ x. x.kind) w.1, (n, refl, sym s ∙ opposite b w.0, ap (λ x. x.place) (sym w.1))))
    (λ e (k, (m, is, f, p)).
    let same : n ≡ m = same_number n m is in
    (ap not (s ∙ ap (λ x. is_size x.value) same ∙ f), by_parts e Limit n.place k (ap (λ x. x.place) same ∙ p))) h
