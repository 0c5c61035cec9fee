-- The quiet actions that wait of a process are taken, one by one, and then the action that others learn of.
use Rattle.std.proofs.Common.{◌≡◌, ℕ, ◌+◌, ◌<◌, ◌≤◌, Bool, true, false, List, [], ◌∷◌, ◌++◌, length, Option, Some, None}
use Rattle.std.proofs.Common.{refl, ap, sym, ◌∙◌, subst, arith, option_map, append_assoc}
use Rattle.std.specs.Prelude.{Result, Ok, Err, IfOk}
use Rattle.words.specs.Updates.{put}
use Rattle.machine.specs.States.{State}
use Rattle.program.specs.Trees.{Program}
use Rattle.program.specs.declared.kinds.Member.{Member}
use Rattle.meaning.specs.Labels.{Action, Kind, Label, kind_of}
use Rattle.meaning.specs.Offers.{Offer as OfferOf, TakesUp, offer}
use Rattle.meaning.specs.Runs.{IsStep}
use Rattle.meaning.specs.States.{SourceState}
use Rattle.proof_commutation.specs.Deferring.{is_internal, IsBehind}
use Rattle.proof_commutation.specs.Placed.{actions_of}
use Rattle.source_offers.specs.declared.next_action.Offer.{Offer}
use Rattle.source_offers.specs.declared.process.Process.{Process}
use Rattle.source_offers.specs.NextAction.{offer_of}
use Rattle.source_states.specs.States.{state_of}
use Rattle.words.proofs.Updates.{put_same}
use Rattle.proof_simulation.specs.Next.{after_next, next_kinds, next_visible, offer_of_process, take_deferred}
use Rattle.proof_simulation.specs.Next.{internal_next}
use Rattle.proof_simulation.specs.Ordering.{Resumes, act, awake_waiters}
use Rattle.proof_simulation.specs.Progress.{Progress, progress_next, progress_caught_up}
use Rattle.proof_simulation.specs.Tracking.{CanTake}
use Rattle.proof_simulation.proofs.Nexts.{visible_is, visible_so, catches_up_behind}
use Rattle.proof_simulation.proofs.Sourcing.{action}
use Rattle.proof_simulation.proofs.Worlds.{put_put}
use Rattle.log_simulation.specs.declared.follower.Follower.{Follower}
use Rattle.log_simulation.specs.Choosing.{visible_kind, resumed_only}
use Rattle.log_simulation.specs.Going.{Matches, Takes, TakesInternal, followed}
use Rattle.log_simulation.proofs.Choices.{visible_found}
use Rattle.log_simulation.proofs.Taking.{further}

module _ (p : Program) (a : SourceState) (t : ℕ) (o : Offer) (q : Process) (label : Label)
    (can : CanTake p a t label) (is : Some (offer_of p o q) ≡ option_map (offer p a.variable) (a.process t)) where
  takes : TakesUp (offer_of p o q) label can.effect can.after
  takes =
      let e : Some (offer_of p o q) ≡ Some (offer p a.variable can.before) =
      is ∙ ap (option_map (offer p a.variable)) can.stands in
      let same : offer_of p o q ≡ offer p a.variable can.before = cc in
      subst (λ (i : OfferOf). TakesUp i label can.effect can.after) (sym same) can.takes

  pub visible_here : (s : State) (resumed : List ℕ) → is_internal label ≡ false → Resumes p s a.table label
      → ((c : Member) → resumed_only o ≡ Some c → resumed ≡ awake_waiters p s a.table c)
      → visible_kind o a.table.most a.table.made resumed ≡ Some (kind_of label)
  visible_here s resumed visible who waiters = visible_found p q t a.table can.table label can.effect can.after s o
      resumed
      takes can.allows visible who waiters

pub none_some : {A : Type 0} (k : Kind) → Some k ≡ None → A
none_some k e = absurd cc

pub same_kind : (k l : Kind) → Some k ≡ Some l → k ≡ l
same_kind k l e = cc

abbrev so_far : List Action → SourceState → (ℕ → List Kind) → (ℕ → Bool) → Progress
so_far actions source deferred raised =
    record { actions = actions; source = source; deferred = deferred; raised = raised }

same_progress : (a b : List Action) (s u : SourceState) (w v : ℕ → List Kind) (raised : ℕ → Bool) → a ≡ b → s ≡ u
    → w ≡ v → so_far a s w raised ≡ so_far b u v raised
same_progress a b s u w v raised actions source deferred =
    ap (λ i. so_far i s w raised) actions ∙ ap (λ i. so_far b i w raised) source
    ∙ ap (λ (i : ℕ → List Kind). so_far b u i raised) deferred

nothing_more : {A : Type 0} (l : List A) → l ≡ l ++ []
nothing_more [] = refl
nothing_more (x ∷ xs) = ap (λ l. x ∷ l) (nothing_more xs)

-- of the actions that wait of process t, so many were taken, and the rest leads where all lead
pub record IsPaying (p : Program) (t : ℕ) (g : Progress) (ahead : SourceState) (count taken : ℕ)
    (now : Follower) : Type 0 where
  pub so_far : Progress
  pub matches : Matches now so_far
  pub behind : IsBehind p so_far.deferred so_far.source ahead
  pub left : length (so_far.deferred t) + taken ≡ count
  pub rest : progress_caught_up p t so_far ≡ progress_caught_up p t g

-- the same, whatever waited
pub record HasCaughtUp (p : Program) (t count taken : ℕ) (old now : Follower) : Type 0 where
  pub paying : (g : Progress) (ahead : SourceState) → Matches old g → IsBehind p g.deferred g.source ahead
      → length (g.deferred t) ≡ count → IsPaying p t g ahead count taken now

pub begins_paying : (p : Program) (t count : ℕ) (f : Follower) → HasCaughtUp p t count 0 f f
begins_paying p t count f = record {
  paying = λ g ahead matches behind all. record {
    so_far = g;
    matches = matches;
    behind = behind;
    left = omega (arith, all);
    rest = refl;
  };
}

module _ (p : Program) (t : ℕ) (g : Progress) (ahead : SourceState) (count taken : ℕ) (now : Follower)
    (paying : IsPaying p t g ahead count taken now) where
  -- one more is deferred, and is paid
  pub catches_up_one : taken < count → followed now ≡ p → (b : Bool) (new : Follower)
      → TakesInternal now t b new
      → (b ≡ true) × IsPaying p t g ahead count (taken + 1) new
  catches_up_one more same b new act_taken = by_rest (paying.so_far.deferred t) refl
    where
      by_rest : (ks : List Kind) → paying.so_far.deferred t ≡ ks
          → (b ≡ true) × IsPaying p t g ahead count (taken + 1) new
      by_rest [] mine =
          let none : length (paying.so_far.deferred t) ≡ 0 = ap length mine in
          absurd (omega (arith, none, paying.left, more))
      by_rest (k ∷ ks) mine =
          let w = paying.so_far.deferred in
          let actions = paying.so_far.actions in
          let a = paying.so_far.source in
          let after = after_next t (internal_next (offer_of_process p a.variable (a.process t))) a in
          let catches_up = catches_up_behind p t w a ahead k ks paying.behind mine in
          let step : IsStep p a (act t (kind_of catches_up.0)) after = subst
          (λ i. IsStep p a (act t i) after) catches_up.1 catches_up.4 in
          let took = act_taken paying.so_far catches_up.0 after paying.matches
          (subst (λ i. CanTake i a t catches_up.0) (sym same) catches_up.3) catches_up.2
          (subst (λ i. IsStep i a (act t (kind_of catches_up.0)) after) (sym same) step) in (
            took.0,
            record {
              so_far = record (further paying.so_far (act t k) after) { deferred = put w t ks };
              matches = record {
                actions = took.1.actions ∙ ap (λ i. actions ++ act t i ∷ []) (sym catches_up.1);
                source = took.1.source;
              };
              behind = catches_up.5;
              left =
                  let before : length (w t) ≡ length ks + 1 = ap length mine ∙ omega arith in
                  let one : length (put w t ks t) ≡ length ks = ap length (put_same w t ks) in
                  omega (arith, before, one, paying.left);
              rest = same_progress _ _ _ _ _ _ _
                  (ap (λ l. (actions ++ act t k ∷ []) ++ actions_of t l) (put_same w t ks)
                  ∙ append_assoc actions (act t k ∷ []) (actions_of t ks)
                  ∙ sym (ap (λ l. actions ++ actions_of t l) mine))
                  (ap (λ l. take_deferred p t l after) (put_same w t ks) ∙ sym (ap (λ l. take_deferred p t l a) mine))
                  (put_put w t ks []) ∙ paying.rest;
            },
          )

  -- no more wait
  pub all_caught_up : count ≤ taken → Matches now (progress_caught_up p t g)
  all_caught_up over = by_rest (paying.so_far.deferred t) refl
    where
      by_rest : (ks : List Kind) → paying.so_far.deferred t ≡ ks → Matches now (progress_caught_up p t g)
      by_rest [] mine = subst (λ (i : Progress). Matches now i) paying.rest (record {
        actions = paying.matches.actions ∙ nothing_more paying.so_far.actions
            ∙ sym (ap (λ l. paying.so_far.actions ++ actions_of t l) mine);
        source = paying.matches.source ∙ sym (ap (λ l. take_deferred p t l paying.so_far.source) mine);
      })
      by_rest (k ∷ ks) mine =
          let some : length (paying.so_far.deferred t) ≡ length ks + 1 = ap length mine ∙ omega arith in
          absurd (omega (arith, some, paying.left, over))

-- behind that comes the action that others learn of
module _ (p : Program) (s : State) (t : ℕ) (g : Progress) (label : Label) (can : CanTake p g.source t label)
    (visible : is_internal label ≡ false) (who : Resumes p s g.source.table label) where
  abbrev after : SourceState
  after = after_next t (next_visible p s t g.source) g.source

  step : IsStep p g.source (act t (kind_of label)) after
  step = subst (λ (i : SourceState). IsStep p g.source (act t (kind_of label)) i)
      (sym (visible_so p g.source t label can s visible who))
      (action p g.source t can.before can.after label can.effect can.table can.stands can.takes can.allows)

  module _ (f : Follower) (same : followed f ≡ p) (matches : Matches f g) where
    pub found_so : (found : Option Kind) → ((label : Label) → CanTake (followed f) (state_of f.state) t label
        → is_internal label ≡ false → Resumes (followed f) s (state_of f.state).table label
        → found ≡ Some (kind_of label)) → found ≡ Some (kind_of label)
    found_so found finds = finds label
        (subst (λ i. CanTake i (state_of f.state) t label) (sym same)
        (subst (λ (i : SourceState). CanTake p i t label) (sym matches.source) can)) visible
        (subst (λ i. Resumes i s (state_of f.state).table label) (sym same)
        (subst (λ (i : SourceState). Resumes p s i.table label) (sym matches.source) who))

    pub follows_so : (k : Kind) → Some k ≡ Some (kind_of label) → (b : Bool) (new : Follower)
        → Takes f (act t k) b new → (b ≡ true) × Matches new (progress_next p s t g)
    follows_so k is b new act_taken =
        let kind : k ≡ kind_of label = same_kind k (kind_of label) is in
        let possible : IsStep (followed f) g.source (act t k) after =
        subst (λ i. IsStep i g.source (act t k) after) (sym same)
        (subst (λ i. IsStep p g.source (act t i) after) (sym kind) step) in
        let took = act_taken g after matches possible in (
          took.0,
          record {
            actions = took.1.actions ∙ ap (λ i. g.actions ++ act t i ∷ []) kind
                ∙ sym (ap (λ n. g.actions ++ actions_of t (next_kinds n))
                (visible_is p g.source t label can s visible who));
            source = took.1.source;
          },
        )

pub if_ok : {A E : Type 0} (P Q : A → Type 0) (r : Result A E) → ((x : A) → P x → Q x) → IfOk r P → IfOk r Q
if_ok P Q (Ok x) on h = on x h
if_ok P Q (Err e) on h = tt
