-- A program means the same for images of either version, but for how many processes there can be.
use Rattle.std.proofs.Common.{◌≡◌, ◌∙◌, ℕ, Option, List, ap, inl, inr}
use Rattle.words.specs.declared.version.ImageVersion.{ImageVersion}
use Rattle.lowering.specs.Layout.{Layout}
use Rattle.program.specs.Names.{CheckedProgram, said_by}
use Rattle.program.specs.Trees.{Program, as_version}
use Rattle.meaning.specs.Labels.{Action, Label}
use Rattle.meaning.specs.Runs.{IsAction, IsKill, IsStep}
use Rattle.meaning.specs.States.{SourceState}
use Rattle.proof_simulation.specs.Tracking.{CanTake}
use Rattle.log_simulation.specs.declared.follower.Follower.{Follower}
use Rattle.log_simulation.specs.Going.{followed}

module _ (v : ImageVersion) (p : Program) where
  action_same : (s s' : SourceState) (a : Action) → IsAction (as_version v p) s a s' → IsAction p s a s'
  action_same s s' a h = record {
    before = h.before;
    after = h.after;
    label = h.label;
    effect = h.effect;
    stands = h.stands;
    acts = h.acts;
    named = h.named;
    allows = h.allows;
    variables = h.variables;
    printed = h.printed;
    processes = h.processes;
  }

  kill_same : (s s' : SourceState) (t : ℕ) (resumed : List ℕ) (last : Option ℕ)
      → IsKill (as_version v p) s t resumed last s' → IsKill p s t resumed last s'
  kill_same s s' t resumed last h = record {
    before = h.before;
    monitors = h.monitors;
    notified = h.notified;
    stands = h.stands;
    killable = h.killable;
    notifies = h.notifies;
    left = h.left;
    allows = h.allows;
    variables = h.variables;
    printed = h.printed;
    processes = h.processes;
  }

  -- a step of the program is one
  pub step_same : (s s' : SourceState) (a : Action) → IsStep (as_version v p) s a s' → IsStep p s a s'
  step_same s s' a (inl own) = inl (action_same s s' a own)
  step_same s s' a (inr (inl stray)) = inr (inl stray)
  step_same s s' a (inr (inr kill)) =
      inr (inr (kill.0, kill.1, kill.2, kill_same s s' a.process kill.0 kill.1 kill.3))

  -- what a process can take, it can
  pub can_same : (a : SourceState) (t : ℕ) (label : Label) → CanTake (as_version v p) a t label → CanTake p a t label
  can_same a t label h = record {
    before = h.before;
    after = h.after;
    effect = h.effect;
    table = h.table;
    stands = h.stands;
    takes = h.takes;
    allows = h.allows;
  }

-- by the same layout of the same program, that is followed
pub by_same : (c d : CheckedProgram) (l m : Layout) → c ≡ d → l ≡ m
    → as_version l.version (said_by c) ≡ as_version m.version (said_by d)
by_same c d l m checked layout =
    ap (λ x. as_version l.version (said_by x)) checked ∙ ap (λ (x : Layout). as_version x.version (said_by d)) layout

pub same_followed : (f g : Follower) → f.checked ≡ g.checked → f.layout ≡ g.layout → followed f ≡ followed g
same_followed f g checked layout =
    by_same f.checked.now g.checked.now f.layout g.layout (ap (λ x. x.now) checked) layout
