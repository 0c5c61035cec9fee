-- What a process does, whatever the other processes are.
use Rattle.std.proofs.Common.{◌≡◌, ℕ, Option, Some, None, refl, sym, ap, ◌∙◌, subst, inl, inr, true, false}
use Rattle.std.specs.Prelude.{IsSome}
use Rattle.words.specs.Updates.{put}
use Rattle.words.proofs.Updates.{at_put, at_put2}
use Rattle.program.specs.Trees.{Program}
use Rattle.meaning.specs.Labels.{Action, Killed}
use Rattle.meaning.specs.Offers.{Effect, Makes, Nothing, Puts, Writes}
use Rattle.meaning.specs.Processes.{Dying, Process}
use Rattle.meaning.specs.Runs.{CanMove, IsAction, IsKill, IsStep}
use Rattle.meaning.specs.States.{SourceState, processes_after}
use Rattle.proof_exploration.specs.Exploring.{IsLike}
use Rattle.source_reaching.specs.Among.{among, or_else}
use Rattle.source_reaching.specs.Choices.{by}
use Rattle.source_reaching.specs.Covered.{IsFollowable}

module _ (others : ℕ → Option Process) where
  abbrev beside : (ℕ → Option Process) → ℕ → Option Process
  beside f q = or_else (f q) (others q)

  beside_put : (f : ℕ → Option Process) (k : ℕ) (y : Process)
      → (λ q. or_else (put f k (Some y) q) (others q)) ≡ put (λ q. or_else (f q) (others q)) k (Some y)
  beside_put f k y = λ i q. at q i
    where
      at : (q : ℕ) → or_else (put f k (Some y) q) (others q) ≡ put (λ r. or_else (f r) (others r)) k (Some y) q
      at q = at_put2 f (λ r. or_else (f r) (others r)) k (Some y) (Some y) q (λ a b. or_else a (others q) ≡ b)
          (λ e. refl) (λ not. refl)

  beside_after : (effect : Effect) (f : ℕ → Option Process)
      → (λ q. or_else (processes_after effect f q) (others q)) ≡ processes_after effect (λ q. or_else (f q) (others q))
  beside_after Nothing f = refl
  beside_after (Puts m n i z) f = refl
  beside_after (Writes z) f = refl
  beside_after (Makes child y) f = beside_put f child y

  beside_done : (effect : Effect) (f : ℕ → Option Process) (k : ℕ) (y : Process)
      → (λ q. or_else (put (processes_after effect f) k (Some y) q) (others q))
      ≡ put (processes_after effect (λ q. or_else (f q) (others q))) k (Some y)
  beside_done effect f k y =
      beside_put (processes_after effect f) k y ∙ ap (λ g. put g k (Some y)) (beside_after effect f)

  module _ (p : Program) (s : SourceState) (a : Action) (s' : SourceState) where
    -- an action is possible with others beside, and leads there with them beside
    pub action_up : (x : IsAction p s a s') → IsAction p (among others s) a (among others s')
    action_up x = record {
      before = x.before;
      after = x.after;
      label = x.label;
      effect = x.effect;
      stands = ap (λ (o : Option Process). or_else o (others a.process)) x.stands;
      acts = x.acts;
      named = x.named;
      allows = x.allows;
      variables = x.variables;
      printed = x.printed;
      processes = ap beside x.processes
          ∙ beside_done x.effect s.process a.process x.after;
    }

    kill_up : (resumed : _) (last : Option ℕ) → IsKill p s a.process resumed last s'
        → IsKill p (among others s) a.process resumed last (among others s')
    kill_up resumed last x = record {
      before = x.before;
      monitors = x.monitors;
      notified = x.notified;
      stands = ap (λ (o : Option Process). or_else o (others a.process)) x.stands;
      killable = x.killable;
      notifies = x.notifies;
      left = x.left;
      allows = x.allows;
      variables = x.variables;
      printed = x.printed;
      processes = ap beside x.processes
          ∙ beside_put s.process a.process (Dying Killed x.monitors);
    }

    pub step_up : IsStep p s a s' → IsStep p (among others s) a (among others s')
    step_up (inl x) = inl (action_up x)
    step_up (inr (inl x)) = inr (inl (
      x.0,
      x.1,
      record {
        allows = x.2.allows;
        variables = x.2.variables;
        printed = x.2.printed;
        processes = ap beside x.2.processes;
      },
    ))
    step_up (inr (inr x)) = inr (inr (x.0, x.1, x.2, kill_up x.0 x.1 x.3))

    its_own : (o other : Option Process) (q : Process) → IsSome o → or_else o other ≡ Some q → o ≡ Some q
    its_own None other q is e = absurd (let no : false ≡ true = is in cc)
    its_own (Some y) other q is e = e

    -- what a process does with others beside, it does alone
    pub action_down : IsSome (s.process a.process) → IsAction p (among others s) a s'
        → (d : SourceState) × IsAction p s a d × (among others d ≡ s')
    action_down is x = (
      record s' { process = put (processes_after x.effect s.process) a.process (Some x.after) },
      record {
        before = x.before;
        after = x.after;
        label = x.label;
        effect = x.effect;
        stands = its_own (s.process a.process) (others a.process) x.before is x.stands;
        acts = x.acts;
        named = x.named;
        allows = x.allows;
        variables = x.variables;
        printed = x.printed;
        processes = refl;
      },
      λ i. record s' { process = (beside_done x.effect s.process a.process x.after ∙ sym x.processes) i },
    )

  pub like_among : (s r : SourceState) → IsLike s r → IsLike (among others s) (among others r)
  like_among s r like = record {
    table = like.table;
    variable = like.variable;
    process = ap beside like.process;
  }

  -- who can be followed can be with others beside
  pub followable_among : (p : Program) (s : SourceState) (t : ℕ) (actions : _) → IsSome (s.process t)
      → IsFollowable p s t actions → IsFollowable p (among others s) t actions
  unfolding action_up
  followable_among p s t actions there is = record {
    calm = record {
      kind = (is.calm).kind;
      after = among others (is.calm).after;
      moves = action_up p s (by t (is.calm).kind) (is.calm).after (is.calm).moves;
      calm = (is.calm).calm;
    };
    choices = λ kind s' x.
        let d = action_down p s (by t kind) s' there x in
        let tried = is.choices kind d.0 d.1 in (
          tried.0,
          tried.1,
          subst (IsAction p (among others s) (by t tried.0)) d.2
              (action_up p s (by t tried.0) d.0 tried.2),
        );
  }

  -- who can move can with others beside, and nobody can there who can't alone
  pub can_up : (p : Program) (s : SourceState) (t : ℕ) → CanMove p s t → CanMove p (among others s) t
  can_up p s t can = record {
    kind = can.kind;
    after = among others can.after;
    moves = action_up p s (by t can.kind) can.after can.moves;
  }

  pub can_down : (p : Program) (s : SourceState) (t : ℕ) → IsSome (s.process t) → CanMove p (among others s) t
      → CanMove p s t
  can_down p s t there can =
      let d = action_down p s (by t can.kind) can.after there can.moves in
      record { kind = can.kind; after = d.0; moves = d.1 }

-- a process that there was there is still
pub stands_on : (p : Program) (s : SourceState) (a : Action) (s' : SourceState) (t : ℕ) → IsStep p s a s'
    → IsSome (s.process t) → IsSome (s'.process t)
stands_on p s a s' t (inl x) is = subst (λ (f : ℕ → Option Process). IsSome (f t)) (sym x.processes)
    (at_put (processes_after x.effect s.process) a.process (Some x.after) t IsSome (λ e. refl)
    (λ not. behind x.effect))
  where
    behind : (effect : Effect) → IsSome (processes_after effect s.process t)
    behind Nothing = is
    behind (Puts m n i z) = is
    behind (Writes z) = is
    behind (Makes child y) = at_put s.process child (Some y) t IsSome (λ e. refl) (λ not. is)
stands_on p s a s' t (inr (inl x)) is = subst (λ (f : ℕ → Option Process). IsSome (f t)) (sym x.2.processes) is
stands_on p s a s' t (inr (inr x)) is = subst (λ (f : ℕ → Option Process). IsSome (f t)) (sym x.3.processes)
    (at_put s.process a.process (Some (Dying Killed x.3.monitors)) t IsSome (λ e. refl) (λ not. is))
