-- What the actions of a process reach, whatever the other processes are.
use Rattle.std.proofs.Common.{◌≡◌, ◌<◌, ◌+◌, ◌++◌, ℕ, zero, suc, List, [], ◌∷◌, Option, All, Contains}
use Rattle.std.proofs.Common.{sym, subst, inl, inr, arith, length, get_or, map, take}
use Rattle.std.specs.Prelude.{IsSome}
use Rattle.std.proofs.lemmas.List.{get_or_append_left, length-append}
use Rattle.std.proofs.lemmas.List.Elements.{All-contains, All-head, All-tail, All-weaker, Contains-push}
use Rattle.program.specs.Trees.{Program}
use Rattle.meaning.specs.Labels.{Action}
use Rattle.meaning.specs.Processes.{Process}
use Rattle.meaning.specs.Runs.{CanMove, IsAction, IsStep}
use Rattle.meaning.specs.States.{SourceState}
use Rattle.proof_exploration.specs.Exploring.{IsLike}
use Rattle.proof_exploration.specs.Searching.{IsCovered}
use Rattle.proof_exploration.proofs.Representing.{like_covered}
use Rattle.source_states.specs.Actions.{action_of}
use Rattle.source_states.specs.declared.action.Action.{Action as ActionOf}
use Rattle.source_reaching.specs.Among.{AreCovered, AreEnds, IsAheadAmong, LeadsOwn, LeadsToEnds, Reaches, among}
use Rattle.source_reaching.specs.Choices.{AreOwnChoices, by}
use Rattle.source_reaching.specs.Covered.{IsFollowable}
use Rattle.source_reaching.specs.Ends.{IsLonger}
use Rattle.source_reaching.specs.Followed.{IsFollowedAmong, IsReached}
use Rattle.source_reaching.specs.declared.follow.Followed.{Followed}
use Rattle.source_reaching.specs.declared.follow.Followed.TheVariants.{Stopped, Went, Choices, Lost}
use Rattle.source_reaching.proofs.Ahead.{covered_to}
use Rattle.source_reaching.proofs.Among.{action_down, action_up, like_among}
use Rattle.source_reaching.proofs.Listed.{one_more_action}

module _ (p : Program) (t : ℕ) where
  -- an action, and calm ones behind it
  module _ (s n r : SourceState) (a : Action) (here : a.process ≡ t)
      (next : (u : SourceState) → IsStep p s a u → IsLike n u) (stays : IsSome (s.process t) → IsSome (n.process t)) where
    pub reaches : IsAheadAmong p t n r → Reaches p t s a r
    reaches ahead is = (
      (ahead (stays is)).0,
      λ others kept m covered.
          let before : (k : ℕ) × IsCovered p kept k (among others n) = (ahead (stays is)).1 others kept m covered in (
            before.0,
            λ u x.
                let d = action_down others p s a u (subst (λ k. IsSome (s.process k)) (sym here) is) x in
                subst (IsCovered p kept before.0) d.2
                (like_covered p kept before.0 (among others n) (among others d.0)
                (like_among others n d.0 (next d.0 (inl d.1))) before.1),
          ),
    )

    pub reached : (f : Followed) → IsFollowedAmong p t n r f → IsReached p t s a r f
    reached Stopped is = reaches is
    reached Went is = reaches is
    reached (Choices actions) is = (reaches is.0, is.1)
    reached Lost is = tt

  -- where the action isn't possible
  pub ends_nowhere : (s : SourceState) (ends : List SourceState) (a : Action) → a.process ≡ t
      → ((u : SourceState) → IsStep p s a u → ⊥) → LeadsToEnds p t s ends a
  ends_nowhere s ends a here never is others kept n all = (
    zero,
    λ u x.
        let d = action_down others p s a u (subst (λ k. IsSome (s.process k)) (sym here) is) x in
        absurd (never d.0 (inl d.1)),
  )

  -- with more ends
  covered_first : (kept : List SourceState) (n : ℕ) (others : ℕ → Option Process) (ends more : List SourceState)
      → AreCovered p kept n others (ends ++ more) → AreCovered p kept n others ends
  covered_first kept n others ends more all k d less =
      let e : length (ends ++ more) ≡ length ends + length more = length-append ends more in
      subst (λ s. IsCovered p kept n (among others s)) (get_or_append_left ends more d k less)
      (all k d (omega (arith, less, e)))

  pub ends_more : (s : SourceState) (ends ends' : List SourceState) (a : Action) → IsLonger ends ends'
      → LeadsToEnds p t s ends a → LeadsToEnds p t s ends' a
  ends_more s ends ends' a more leads is others kept n all =
      leads is others kept n (covered_first kept n others ends more.0 (subst (AreCovered p kept n others) more.1 all))

  -- the state that was reached is the last of the ends
  pub ends_last : (s r : SourceState) (a : Action) (ends ends' : List SourceState) → ends' ≡ ends ++ r ∷ []
      → Reaches p t s a r → LeadsToEnds p t s ends' a
  ends_last s r a ends ends' is reach there others kept n all =
      (reach there).1 others kept n (All-contains (λ e. IsCovered p kept n (among others e)) ends' r all
      (subst (λ l. Contains l r) (sym is) (Contains-push ends r)))

  -- one number of actions for all
  abbrev LeadsWell : List SourceState → SourceState → ℕ → Action → Type 0
  LeadsWell kept s m a = (s' : SourceState) → IsAction p s a s' → IsCovered p kept m s'

  cons : (P : Action → Type 0) (a : Action) (actions : List Action) → P a → All P actions → All P (a ∷ actions)
  cons P a actions here later zero d l = here
  cons P a actions here later (suc k) d l = later k d (omega (arith, l))

  uniform : (kept : List SourceState) (s : SourceState) (actions : List Action) → All (LeadsOwn p kept s) actions
      → (m : ℕ) × All (LeadsWell kept s m) actions
  uniform kept s [] all = (zero, λ k d l. absurd (omega (arith, l)))
  uniform kept s (a ∷ actions) all =
      let one : LeadsOwn p kept s a = All-head (LeadsOwn p kept s) a actions all in
      let rest : (m : ℕ) × All (LeadsWell kept s m) actions =
      uniform kept s actions (All-tail (LeadsOwn p kept s) a actions all) in (
        one.0 + rest.0,
        cons (LeadsWell kept s (one.0 + rest.0)) a actions
            (λ s' x. covered_to p kept one.0 rest.0 (one.0 + rest.0) s' (omega arith) (one.1 s' x))
            (All-weaker (LeadsWell kept s rest.0) (LeadsWell kept s (one.0 + rest.0))
            (λ b to s' x. covered_to p kept rest.0 one.0 (one.0 + rest.0) s' (omega arith) (to s' x)) actions rest.1),
      )

  module _ (s : SourceState) (actions : List Action) (ends : List SourceState)
      (all : All (LeadsToEnds p t s ends) actions) where
    each : IsSome (s.process t) → (others : ℕ → Option Process) (kept : List SourceState) (n : ℕ)
        → AreCovered p kept n others ends → All (LeadsOwn p kept (among others s)) actions
    each is others kept n covered =
        All-weaker (LeadsToEnds p t s ends) (LeadsOwn p kept (among others s))
        (λ a leads. leads is others kept n covered) actions all

    -- of a process whose own choices these are
    pub own_ends : AreOwnChoices p s t actions → AreEnds p t s ends
    own_ends are kind is others kept n covered =
        let one : (m : ℕ) × All (LeadsWell kept (among others s) m) actions =
        uniform kept (among others s) actions (each is others kept n covered) in (
          one.0,
          λ u x.
              let d = action_down others p s (by t kind) u is x in
              let tried = are kind d.0 d.1 in
              All-contains (LeadsWell kept (among others s) one.0) actions (by t tried.0) one.1 tried.1 u
              (subst (IsAction p (among others s) (by t tried.0)) d.2
              (action_up others p s (by t tried.0) d.0 tried.2)),
        )

    -- of one that is followed, so that the state is covered
    covered_ends : ((others : ℕ → Option Process) → IsFollowable p (among others s) t actions)
        → IsSome (s.process t) → (others : ℕ → Option Process) (kept : List SourceState) (n : ℕ)
        → AreCovered p kept n others ends → (m : ℕ) × IsCovered p kept m (among others s)
    covered_ends can is others kept n covered =
        let one : (m : ℕ) × All (LeadsWell kept (among others s) m) actions =
        uniform kept (among others s) actions (each is others kept n covered) in (
          suc one.0,
          inr (
            t,
            (can others).calm,
            λ kind after x.
                let tried = (can others).choices kind after x in
                All-contains (LeadsWell kept (among others s) one.0) actions (by t tried.0) one.1 tried.1 after tried.2,
          ),
        )

  -- an action and its choices behind it
  pub ends_chosen : (s r : SourceState) (a : Action) (actions : List Action) (ends : List SourceState)
      → Reaches p t s a r
      → (IsSome (r.process t) → (others : ℕ → Option Process) → IsFollowable p (among others r) t actions)
      → All (LeadsToEnds p t r ends) actions → LeadsToEnds p t s ends a
  ends_chosen s r a actions ends reach can all is others kept n covered =
      let there : IsSome (r.process t) = (reach is).0 in
      let mid : (m : ℕ) × IsCovered p kept m (among others r) =
      covered_ends r actions ends all (can there) there others kept n covered in
      (reach is).1 others kept mid.0 mid.1

  -- of one that can't move
  pub ends_none : (s : SourceState) (ends : List SourceState) → (CanMove p s t → ⊥) → AreEnds p t s ends
  ends_none s ends never kind is others kept n covered = (
    zero,
    λ u x.
        let d = action_down others p s (by t kind) u is x in
        absurd (never (record { kind = kind; after = d.0; moves = d.1 })),
  )

  pub ends_none_yet : (s : SourceState) (ends : List SourceState) (actions : List ActionOf)
      → All (LeadsToEnds p t s ends) (map action_of (take 0 actions))
  ends_none_yet s ends actions = λ k d less.
      absurd (let no : k < length (map action_of (take 0 actions)) = less in nothing k actions no)
    where
      nothing : (k : ℕ) (actions : List ActionOf) → k < length (map action_of (take 0 actions)) → ⊥
      nothing k [] less = omega (arith, less)
      nothing k (a ∷ as') less = omega (arith, less)

  pub ends_one_more : (s : SourceState) (ends ends' : List SourceState) (actions : List ActionOf) (i : ℕ)
      (a : ActionOf) → IsLonger ends ends' → i < length actions → a ≡ get_or actions i a
      → All (LeadsToEnds p t s ends) (map action_of (take i actions)) → LeadsToEnds p t s ends' (action_of a)
      → All (LeadsToEnds p t s ends') (map action_of (take (i + 1) actions))
  ends_one_more s ends ends' actions i a more less is all one =
      one_more_action (LeadsToEnds p t s ends') actions i a less is
      (All-weaker (LeadsToEnds p t s ends) (LeadsToEnds p t s ends') (λ b. ends_more s ends ends' b more)
      (map action_of (take i actions)) all) one
