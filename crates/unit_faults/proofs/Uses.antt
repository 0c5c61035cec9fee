-- Walks over what code lists, as walks over what a unit's tree lists.
use Rattle.std.specs.List.{Contains}
use Rattle.std.proofs.Common.{arith, sym}
use Rattle.std.proofs.Common.{◌≡◌, ℕ, ◌<◌, ◌≤◌, ◌+◌, List, Option, length, take, get_or}
use Rattle.std.proofs.Common.{map, ap, ◌∙◌, subst}
use Rattle.scanner.specs.declared.refusal.Refusal.{Refusal}
use Rattle.scanner.specs.declared.refusal.RefusalKind.TheVariants.{Redeclared, Limit}
use Rattle.syntax.specs.declared.leaf.Name.{Name}
use Rattle.syntax.specs.Lexeme.{NameTree}
use Rattle.syntax.specs.View.{name_of}
use Rattle.types.specs.Judgement.{IsRepeated, IsPast}
use Rattle.unit_faults.specs.Collected.{Collects, OfKind, InOne}
use Rattle.std.proofs.lemmas.List.{length-map, get_or-map}
use Rattle.unit_faults.proofs.Collecting.{collects_same}
use Rattle.unit_faults.proofs.Along.{Along, along_next, along_end}
use Rattle.callees.proofs.Growing.{contains_at}
use Rattle.unit_faults.proofs.Relations.{found}

-- names that are read twice
pub repeated_of : (xs ys : List Name) (ns : List NameTree) (a b : Option Refusal) → xs ≡ ys → map name_of ys ≡ ns
    → Collects (OfKind Redeclared (IsRepeated (map name_of xs))) a b → Collects (OfKind Redeclared (IsRepeated ns)) a b
repeated_of xs ys ns a b e f h = subst (λ z. Collects (OfKind Redeclared (IsRepeated z)) a b) (ap (map name_of) e
    ∙ f) h

-- names that are counted
pub past_of : (most : ℕ) (xs ys : List Name) (ns : List NameTree) (a b : Option Refusal) → xs ≡ ys
    → map name_of ys ≡ ns
    → Collects (OfKind Limit (IsPast most (map name_of xs))) a b → Collects (OfKind Limit (IsPast most ns)) a b
past_of most xs ys ns a b e f h = subst (λ z. Collects (OfKind Limit (IsPast most z)) a b) (ap (map name_of) e ∙ f) h

-- one element more
pub one_next : {X Y : Type 0} (f : Y → X) (Is : X → Refusal → Type 0) (ys : List Y) (i : ℕ) (y : Y)
    (a b c : Option Refusal)
    → i < length ys → y ≡ get_or ys i y → Collects (Along (λ before x. Is x) (take i (map f ys))) a b
    → Collects (Is (f y)) b c → Collects (Along (λ before x. Is x) (take (i + 1) (map f ys))) a c
one_next f Is ys i y a b c h e k l =
    along_next f (λ before x. Is x) ys i y a b c h k (subst (λ z. Collects (Is (f z)) b c) e l)

-- all of them
pub one_end : {X Y : Type 0} (f : Y → X) (Is : X → Refusal → Type 0) (ys : List Y) (i : ℕ) (a b : Option Refusal)
    → length ys ≤ i → Collects (Along (λ before x. Is x) (take i (map f ys))) a b → Collects (InOne Is (map f ys)) a b
one_end f Is ys i a b h k =
    collects_same (Along (λ before x. Is x) (map f ys)) (InOne Is (map f ys)) a b
    (λ e (j, x, g, w). (x, contains_at (map f ys) j x g, w)) (λ e (x, (j, l, q), w). (j, x, found (map f ys) j x l q, w))
    (along_end f (λ before x. Is x) ys i a b h k)

-- an element of what another list says
pub listed : {X Y : Type 0} (f : Y → X) (ys : List Y) (i : ℕ) (y : Y) → i < length ys → y ≡ get_or ys i y
    → Contains (map f ys) (f y)
listed f ys i y h e = (i, omega (arith, h, length-map ys f), get_or-map f ys i y (f y) h ∙ ap f (sym e))
