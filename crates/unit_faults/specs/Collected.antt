-- The least of the faults that a relation tells.
use Rattle.std.specs.Prelude.{◌≡◌, ◌⊎◌, Option, Some, None, List, Contains}
use Rattle.scanner.specs.declared.token.Place.{Place}
use Rattle.scanner.specs.declared.refusal.Refusal.{Refusal}
use Rattle.scanner.specs.declared.refusal.RefusalKind.{RefusalKind}
use Rattle.types.specs.Faults.{ComesNoLater}

-- the least of them: one of them, and none comes before it; none where there is none
abbrev pub IsLeast : (Refusal → Type 0) → Option Refusal → Type 0
IsLeast Is None = (e : Refusal) → Is e → ⊥
IsLeast Is (Some e) = Is e × ((f : Refusal) → Is f → ComesNoLater e f)

-- the second fault is the least of the first and of them
abbrev pub Collects : (Refusal → Type 0) → Option Refusal → Option Refusal → Type 0
Collects Is least result = IsLeast (λ e. (least ≡ Some e) ⊎ Is e) result

-- faults of one kind, at the places that a relation tells
abbrev pub OfKind : RefusalKind → (Place → Type 0) → Refusal → Type 0
OfKind kind At e = (e.kind ≡ kind) × At e.place

-- faults of one element of a list
abbrev pub InOne : {X : Type 0} → (X → Refusal → Type 0) → List X → Refusal → Type 0
InOne {X} Is xs e = (x : X) × Contains xs x × Is x e
