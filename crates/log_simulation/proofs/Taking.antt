-- An action is taken: it leads where the source knows that it leads.
use Rattle.std.proofs.Common.{◌≡◌, ℕ, Bool, true, List, [], ◌∷◌, ◌++◌, Some, None, refl, ap, sym, ◌∙◌, subst}
use Rattle.std.specs.Prelude.{if◌then◌else◌, map}
use Rattle.program.specs.Trees.{Program}
use Rattle.meaning.specs.Labels.{Action, Label, kind_of}
use Rattle.meaning.specs.Runs.{IsStep}
use Rattle.meaning.specs.States.{SourceState}
use Rattle.meaning.proofs.Unique.{step_once}
use Rattle.proof_commutation.specs.Deferring.{is_internal}
use Rattle.proof_simulation.specs.Progress.{Progress}
use Rattle.proof_simulation.specs.Tracking.{CanTake}
use Rattle.source_states.specs.declared.action.Action.{Action as ActionOf}
use Rattle.source_states.specs.Actions.{action_of}
use Rattle.source_states.specs.States.{state_of}
use Rattle.source_states.specs.Internal.{next_internal}
use Rattle.source_states.proofs.Settled.{law}
use Rattle.log_simulation.specs.declared.follower.Follower.{Follower}
use Rattle.log_simulation.specs.Going.{Matches}

pub mapped : (as' bs : List ActionOf) → map action_of (as' ++ bs) ≡ map action_of as' ++ map action_of bs
mapped [] bs = refl
mapped (a ∷ as') bs = ap (λ l. action_of a ∷ l) (mapped as' bs)

-- a progress by one action more
abbrev pub further : Progress → Action → SourceState → Progress
further g x a = record g { actions = g.actions ++ x ∷ []; source = a }

module _ (p : Program) (f : Follower) (a : ActionOf) (x : Action) (is : action_of a ≡ x) (g : Progress)
    (after : SourceState) (matches : Matches f g) (step : IsStep p g.source x after) where
  pub possible : IsStep p (state_of f.state) (action_of a) after
  possible = subst (λ i. IsStep p (state_of f.state) i after) (sym is)
      (subst (λ (i : SourceState). IsStep p i x after) (sym matches.source) step)

  pub took : (f' : Follower) → IsStep p (state_of f.state) (action_of a) (state_of f'.state)
      → f'.actions.items ≡ f.actions.items ++ a ∷ [] → Matches f' (further g x after)
  took f' taken items = record {
    actions = ap (map action_of) items ∙ mapped f.actions.items (a ∷ [])
        ∙ ap (λ l. l ++ action_of a ∷ []) matches.actions ∙ ap (λ i. g.actions ++ i ∷ []) is;
    source = step_once p (action_of a) (state_of f.state) (state_of f'.state) after taken possible;
  }

-- the quiet action that can be taken is the next quiet one
pub next_is : (p : Program) (a : SourceState) (t : ℕ) (label : Label) → CanTake p a t label → is_internal label ≡ true
    → next_internal p a t ≡ Some (kind_of label)
next_is p a t label can internal =
    law p a t can.before can.after label can.effect can.table can.stands can.takes can.allows
    ∙ ap (λ (b : Bool). if b then Some (kind_of label) else None) internal
