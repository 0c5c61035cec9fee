-- Actions one after another.
use Rattle.std.proofs.Common.{◌≡◌, List, [], ◌∷◌, ◌++◌, refl, sym, ◌∙◌, subst}
use Rattle.program.specs.Trees.{Program}
use Rattle.meaning.specs.Labels.{Action}
use Rattle.meaning.specs.States.{SourceState}
use Rattle.meaning.specs.Runs.{IsStep, Leads}
use Rattle.meaning.proofs.Unique.{step_once}

pub leads_more : (p : Program) (s s' t : SourceState) (actions : List Action) (a : Action) → Leads p s actions s'
    → IsStep p s' a t → Leads p s (actions ++ a ∷ []) t
leads_more p s s' t [] a led step = (t, subst (λ x. IsStep p x a t) (sym led) step, refl)
leads_more p s s' t (b ∷ bs) a led step = (led.0, led.1, leads_more p led.0 s' t bs a led.2 step)

pub leads_split : (p : Program) (s t : SourceState) (first later : List Action) → Leads p s (first ++ later) t
    → (mid : SourceState) × Leads p s first mid × Leads p mid later t
leads_split p s t [] later led = (s, refl, led)
leads_split p s t (a ∷ first) later led =
    let rest : (mid : SourceState) × Leads p led.0 first mid × Leads p mid later t =
    leads_split p led.0 t first later led.2 in
    (rest.0, (led.0, led.1, rest.1), rest.2)

pub leads_once : (p : Program) (s left right : SourceState) (actions : List Action) → Leads p s actions left
    → Leads p s actions right → left ≡ right
leads_once p s left right [] x y = sym x ∙ y
leads_once p s left right (a ∷ actions) x y =
    let mid : x.0 ≡ y.0 = step_once p a s x.0 y.0 x.1 y.1 in
    leads_once p y.0 left right actions (subst (λ m. Leads p m actions left) mid x.2) y.2

-- actions that go on where others end
pub leads_on : (p : Program) (a mid b : SourceState) (xs ys : List Action) → Leads p a xs mid → Leads p mid ys b
    → Leads p a (xs ++ ys) b
leads_on p a mid b [] ys x y = subst (λ s. Leads p s ys b) (sym x) y
leads_on p a mid b (z ∷ xs) ys x y = (x.0, x.1, leads_on p x.0 mid b xs ys x.2 y)
