-- Where actions lead to from states that are alike.
use Rattle.std.proofs.Common.{◌≡◌, ℕ, List, [], Option, Some, None, refl, sym, ap, ◌∙◌, inl, inr, subst}
use Rattle.words.specs.Updates.{put}
use Rattle.program.specs.Trees.{Program}
use Rattle.meaning.specs.Labels.{Action, Killed}
use Rattle.meaning.specs.Offers.{offer}
use Rattle.meaning.specs.Processes.{Dying, Process}
use Rattle.meaning.specs.Runs.{IsKill, IsLeft, IsNotifying, IsStep}
use Rattle.meaning.specs.States.{SourceState}
use Rattle.meaning.specs.Table.{AllowsKill, AllowsStray}
use Rattle.meaning.proofs.Unique.{step_once}
use Rattle.proof_exploration.specs.Exploring.{IsLike}
use Rattle.std.specs.Prelude.{IfSome, IsSome, MatchOption}
use Rattle.proof_exploration.proofs.Alike.{like_action, like_after, like_back, like_same, like_self, printing}
use Rattle.source_states.specs.States.{state_of}
use Rattle.source_states.specs.declared.state.SourceState.{SourceState as StateOf}
use Rattle.source_reaching.specs.Ends.{LeadsTo}

-- a state without what was printed
pub without_like : (s c : SourceState) → c ≡ record s { printed = [] } → IsLike s c
without_like s c is = record {
  table = sym (ap (λ (x : SourceState). x.table) is);
  variable = sym (ap (λ (x : SourceState). x.variable) is);
  process = sym (ap (λ (x : SourceState). x.process) is);
}

-- an action leads to a state that is alike
abbrev pub LeadsAlike : Program → SourceState → Action → SourceState → Type 0
LeadsAlike p r a s' = (u : SourceState) × IsStep p r a u × IsLike s' u

module _ (p : Program) (s r : SourceState) (like : IsLike s r) (a : Action) (s' : SourceState) where
  kill_alike : (resumed : List ℕ) (last : Option ℕ) → IsKill p s a.process resumed last s'
      → IsKill p r a.process resumed last (record s' { printed = r.printed })
  kill_alike resumed last x = record {
    before = x.before;
    monitors = x.monitors;
    notified = x.notified;
    stands = ap (λ (f : ℕ → Option Process). f a.process) (sym like.process) ∙ x.stands;
    killable = x.killable;
    notifies = subst (λ v. IsNotifying (offer p v x.before) x.notified) like.variable x.notifies;
    left = subst (λ v. IsLeft p v x.before last x.monitors) like.variable x.left;
    allows = subst (λ T. AllowsKill a.process x.notified resumed T s'.table) like.table x.allows;
    variables = x.variables ∙ like.variable;
    printed = refl;
    processes = x.processes ∙ ap (λ f. put f a.process (Some (Dying Killed x.monitors))) like.process;
  }

  -- what is possible in a state is so in one that is alike
  pub step_alike : IsStep p s a s' → LeadsAlike p r a s'
  step_alike (inl x) =
      (printing p s r like a s' x, inl (like_action p s r like a s' x), like_after p s r like a s' x)
  step_alike (inr (inl x)) = (
    record s' { printed = r.printed },
    inr (inl (
      x.0,
      x.1,
      record {
        allows = subst (λ T. AllowsStray a.process x.0 T s'.table) like.table x.2.allows;
        variables = x.2.variables ∙ like.variable;
        printed = refl;
        processes = x.2.processes ∙ like.process;
      },
    )),
    record { table = refl; variable = refl; process = refl },
  )
  step_alike (inr (inr x)) = (
    record s' { printed = r.printed },
    inr (inr (x.0, x.1, x.2, kill_alike x.0 x.1 x.3)),
    record { table = refl; variable = refl; process = refl },
  )

module _ (p : Program) (s c : SourceState) (a : Action) (is : c ≡ record s { printed = [] }) where
  pub not_next : ((u : SourceState) → IsStep p c a u → ⊥) → (s' : SourceState) → IsStep p s a s' → ⊥
  not_next never s' x =
      let led : LeadsAlike p c a s' = step_alike p s c (without_like s c is) a s' x in
      never led.0 led.1

  pub is_next : (n : SourceState) → IsStep p c a n → (s' : SourceState) → IsStep p s a s' → IsLike n s'
  is_next n step s' x =
      let led : LeadsAlike p c a s' = step_alike p s c (without_like s c is) a s' x in
      like_back s' n (like_same s' led.0 n led.2 (step_once p a c led.0 n led.1 step))

-- what an action leads to is one state
pub one_next : (p : Program) (s : SourceState) (a : Action) (n : SourceState) → IsStep p s a n → (s' : SourceState)
    → IsStep p s a s' → IsLike n s'
one_next p s a n step s' x = like_same n n s' (like_self n) (step_once p a s n s' step x)

-- where an action leads, from what is said of each kind of answer
pub leads_to : (p : Program) (s : SourceState) (a : Action) (o : Option StateOf)
    → MatchOption o ((u : SourceState) → IsStep p s a u → ⊥)
    (λ next. (u : SourceState) → IsStep p s a u → IsLike (state_of next) u)
    → IfSome o (λ next. (t : ℕ) → IsSome (s.process t) → IsSome ((state_of next).process t))
    → LeadsTo p s a o
leads_to p s a None never stays = never
leads_to p s a (Some next) leads stays = (leads, stays)
