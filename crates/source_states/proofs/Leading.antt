-- Actions one after another, the first of which is possible or isn't.
use Rattle.std.proofs.Common.{◌≡◌, ◌↔◌, ◌<◌, ◌+◌, ℕ, List, ◌∷◌, length, get_or, drop, map, ap, sym, ◌∙◌, subst}
use Rattle.std.proofs.Common.{add-one, drop-cons}
use Rattle.program.specs.Trees.{Program}
use Rattle.meaning.specs.Labels.{Action}
use Rattle.meaning.specs.Runs.{IsStep, Leads}
use Rattle.meaning.specs.States.{SourceState}
use Rattle.meaning.proofs.Unique.{step_once}
use Rattle.source_states.specs.declared.action.Action.{Action as ActionOf}
use Rattle.source_states.specs.Actions.{action_of}

-- the actions from a place on are the one there and those after it
pub from_here : (xs : List ActionOf) (i : ℕ) (x : ActionOf) → i < length xs → x ≡ get_or xs i x
    → map action_of (drop i xs) ≡ action_of x ∷ map action_of (drop (i + 1) xs)
from_here xs i x h e =
    ap (map action_of) (drop-cons xs i x h)
    ∙ (λ j. action_of (sym e j) ∷ map action_of (drop (sym (add-one i) j) xs))

-- where the first isn't possible, they lead nowhere
pub leads_nowhere : (p : Program) (s : SourceState) (actions later : List Action) (a : Action)
    → actions ≡ a ∷ later → ((u : SourceState) → IsStep p s a u → ⊥) → (t : SourceState) → Leads p s actions t → ⊥
leads_nowhere p s actions later a split never t led =
    let cut : Leads p s (a ∷ later) t = subst (λ as'. Leads p s as' t) split led in never cut.0 cut.1

-- where it is, the others lead on from where it leads
pub leads_on : (p : Program) (s mid : SourceState) (actions later : List Action) (a : Action)
    → actions ≡ a ∷ later → IsStep p s a mid → (t : SourceState) → Leads p mid later t ↔ Leads p s actions t
leads_on p s mid actions later a split step t = (
  λ led. subst (λ as'. Leads p s as' t) (sym split) (mid, step, led),
  λ led. let cut : Leads p s (a ∷ later) t = subst (λ as'. Leads p s as' t) split led in
      subst (λ m. Leads p m later t) (step_once p a s cut.0 mid cut.1 step) cut.2,
)
