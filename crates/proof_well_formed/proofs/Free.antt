-- Faults that can't be there.
use Rattle.std.proofs.Common.{◌≡◌, List, [], ◌∷◌, ◌++◌, Bool, true, false, refl, Contains}
use Rattle.std.proofs.Common.{suc, arith}
use Rattle.std.specs.Prelude.{⊤}
use Rattle.scanner.specs.declared.token.Place.{Place}
use Rattle.scanner.specs.declared.refusal.Refusal.{Refusal}
use Rattle.scanner.specs.declared.refusal.RefusalKind.{RefusalKind}
use Rattle.scanner.specs.declared.refusal.RefusalKind.TheVariants as K
use Rattle.types.specs.Faults.{where_true}

-- the kinds of the faults of statements
abbrev pub IsOfBody : RefusalKind → Type 0
IsOfBody K.Unknown = ⊤
IsOfBody K.TypeMismatch = ⊤
IsOfBody K.WrongPlace = ⊤
IsOfBody K.DirectReentry = ⊤
IsOfBody _ = ⊥

-- none of these faults is of such a kind
abbrev pub Free : List Refusal → Type 0
Free [] = ⊤
Free (e ∷ es) = (IsOfBody e.kind → ⊥) × Free es

pub parts : (xs ys : List Refusal) → Free (xs ++ ys) → Free xs × Free ys
parts [] ys f = (tt, f)
parts (x ∷ xs) ys f = let p = parts xs ys f.1 in ((f.0, p.0), p.1)

pub three : (a b c : List Refusal) → Free (a ++ b ++ c) → Free a × Free b × Free c
three a b c f = let p = parts (a ++ b) c f in let q = parts a b p.0 in (q.0, q.1, p.1)

-- two operands, and further ones
pub chain : (a v b w c : List Refusal) → Free (a ++ (v ++ b ++ w ++ c))
    → Free a × Free v × Free b × Free w × Free c
chain a v b w c f = let p = parts a (v ++ b ++ w ++ c) f in let q = parts (v ++ b ++ w) c p.1 in
    let r = three v b w q.0 in (p.0, r.0, r.1, r.2, q.1)

pub untrue : (b : Bool) (kind : RefusalKind) (place : Place) → IsOfBody kind → Free (where_true b kind place)
    → b ≡ false
untrue true kind place k f = absurd (f.0 k)
untrue false kind place k f = refl

pub free_of : (es : List Refusal) → ((e : Refusal) → Contains es e → IsOfBody e.kind → ⊥) → Free es
free_of [] h = tt
free_of (e ∷ es) h = (h e (0, omega arith, refl), free_of es (λ d c. h d (suc c.0, omega (arith, c.1), c.2)))

pub true_false : true ≡ false → ⊥
true_false e = cc
