-- Faults: why a unit is refused, each with its place.
use Rattle.std.specs.Prelude.{◌<◌, ◌≤◌, ◌≡◌, ◌⊎◌, List, [], ◌∷◌, ◌++◌, Bool, cond, Option, Some, None, Contains}
use Rattle.scanner.specs.declared.token.Place.{Place}
use Rattle.scanner.specs.declared.refusal.Refusal.{Refusal}
use Rattle.scanner.specs.declared.refusal.RefusalKind.{RefusalKind}
use Rattle.scanner.specs.declared.refusal.RefusalKind.TheVariants as K
use Rattle.scanner.specs.Refusals.{number_of}

-- a refusal of this kind at this place
abbrev pub fault : RefusalKind → Place → Refusal
fault kind place = record { kind = kind; place = place }

-- one fault where the test says so, none else
abbrev pub where_true : Bool → RefusalKind → Place → List Refusal
where_true b kind place = cond b (fault kind place ∷ []) []

-- a name that means nothing of its kind here
abbrev pub unknown : Place → List Refusal
unknown place = fault K.Unknown place ∷ []

-- a type or a kind that doesn't fit
abbrev pub mismatch : Place → List Refusal
mismatch place = fault K.TypeMismatch place ∷ []

-- a statement that may not stand here
abbrev pub misplacement : Place → List Refusal
misplacement place = fault K.WrongPlace place ∷ []

-- a fault comes no later than another: it stands on an earlier line, or further to the left on the same one, or its
-- number is no greater at the same place
abbrev pub ComesNoLater : Refusal → Refusal → Type 0
ComesNoLater e f = (e.place.line < f.place.line)
    ⊎ ((e.place.line ≡ f.place.line) × ((e.place.column < f.place.column)
    ⊎ ((e.place.column ≡ f.place.column) × (number_of e.kind ≤ number_of f.kind))))

-- the least of faults: one of them, and none comes before it; none where there is none
abbrev pub IsLeastOf : List Refusal → Option Refusal → Type 0
IsLeastOf es None = es ≡ []
IsLeastOf es (Some e) = Contains es e × ((f : Refusal) → Contains es f → ComesNoLater e f)

-- one fault of this kind, if there is one
abbrev pub faults_of : Option RefusalKind → Place → List Refusal
faults_of None place = []
faults_of (Some kind) place = fault kind place ∷ []

-- the second fault is the least of some faults and these, where the first is that of the former
abbrev pub Gathers : List Refusal → Option Refusal → Option Refusal → Type 0
Gathers fs least result = (es : List Refusal) → IsLeastOf es least → IsLeastOf (es ++ fs) result
