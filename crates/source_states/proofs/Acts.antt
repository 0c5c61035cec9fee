-- What a process does that offers one action.
use Rattle.std.proofs.Common.{◌≡◌, ℕ, Option, Some, None, refl, ap, sym, ◌∙◌, subst}
use Rattle.words.specs.Updates.{put}
use Rattle.program.specs.Trees.{Program}
use Rattle.meaning.specs.Labels.{Action, Label, kind_of}
use Rattle.meaning.specs.Offers.{Does, Effect, TakesUp, offer}
use Rattle.meaning.specs.Processes.{Process}
use Rattle.meaning.specs.Runs.{IsAction}
use Rattle.meaning.specs.States.{SourceState}
use Rattle.source_states.specs.Done.{IsDone}
use Rattle.source_states.specs.Own.{IsOwnTaken}
use Rattle.source_states.proofs.Steps.{done_without}

abbrev or_else : {X : Type 0} → X → Option X → X
or_else x (Some y) = y
or_else x None = x

pub acts : (p : Program) (s s' : SourceState) (n : ℕ) (before after : Process) (label : Label) (effect : Effect)
    → s.process n ≡ Some before → offer p s.variable before ≡ Does label effect after
    → IsDone n label effect after s s'
    → IsAction p s (record { process = n; kind = kind_of label }) s'
acts p s s' n before after label effect stands offers done = record {
  before = before;
  after = after;
  label = label;
  effect = effect;
  stands = stands;
  acts = subst (λ o. TakesUp o label effect after) (sym offers) (refl, refl, refl);
  named = refl;
  allows = done.allows;
  variables = done.variables;
  printed = done.printed;
  processes = done.processes;
}

-- an action whose label, effect and process after it are these
same : (s s' : SourceState) (n : ℕ) (l label : Label) (e effect : Effect) (q after : Process)
    → l ≡ label → e ≡ effect → q ≡ after → IsDone n l e q s s' → IsDone n label effect after s s'
same s s' n l label e effect q after ll ee qq done = subst (λ x. IsDone n label effect x s s') qq
    (subst (λ x. IsDone n label x q s s') ee (subst (λ x. IsDone n x e q s s') ll done))

pub only : (p : Program) (s s' : SourceState) (a : Action) (before after : Process) (label : Label) (effect : Effect)
    → s.process a.process ≡ Some before → offer p s.variable before ≡ Does label effect after
    → IsAction p s a s'
    → (a.kind ≡ kind_of label) × IsDone a.process label effect after s s'
only p s s' a before after label effect stands offers r = (
  r.named ∙ ap kind_of taken.0,
  same s s' a.process r.label label r.effect effect r.after after taken.0 taken.1 taken.2
      (record { allows = r.allows; variables = r.variables; printed = r.printed; processes = r.processes }),
)
  where
    stood : r.before ≡ before
    stood = ap (or_else before) (sym r.stands ∙ stands)

    taken : TakesUp (Does label effect after) r.label r.effect r.after
    taken = subst (λ o. TakesUp o r.label r.effect r.after) (ap (offer p s.variable) stood ∙ offers) r.acts

-- a process that offers one action took it, in its place
pub took : (p : Program) (s s' : SourceState) (n : ℕ) (before after : Process) (label : Label) (effect : Effect)
    (f : ℕ → Option Process) → s.process n ≡ Some before → Does label effect after ≡ offer p s.variable before
    → f ≡ put s.process n (Some after) → IsDone n label effect after (record s { process = f }) s'
    → IsOwnTaken p n (Some (kind_of label)) s s'
took p s s' n before after label effect f stands offers is done = (
  acts p s s' n before after label effect stands (sym offers)
      (done_without n label effect after (Some after) s s'
      (subst (λ g. IsDone n label effect after (record s { process = g }) s') is done)),
  λ other u r. (only p s u (record { process = n; kind = other }) before after label effect stands (sym offers) r).0,
)
