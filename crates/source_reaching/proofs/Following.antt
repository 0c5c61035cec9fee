-- Calm actions of a process that are followed, whatever the other processes are.
use Rattle.std.proofs.Common.{ℕ, List, [], ◌∷◌, Option, Some, inl}
use Rattle.std.specs.Prelude.{IsSome}
use Rattle.program.specs.Trees.{Program}
use Rattle.meaning.specs.Labels.{Action, Kind}
use Rattle.meaning.specs.Processes.{Process}
use Rattle.meaning.specs.Runs.{IsStep}
use Rattle.meaning.specs.States.{SourceState}
use Rattle.proof_exploration.specs.Exploring.{IsCalmKind}
use Rattle.source_states.specs.Own.{IsOwnTaken}
use Rattle.source_reaching.specs.Among.{IsAheadAmong, among}
use Rattle.source_reaching.specs.Choices.{by}
use Rattle.source_reaching.specs.Covered.{IsFollowable}
use Rattle.source_reaching.specs.Followed.{IsFollowedAmong}
use Rattle.source_reaching.specs.declared.follow.Followed.{Followed}
use Rattle.source_reaching.specs.declared.follow.Followed.TheVariants.{Stopped, Went, Choices, Lost}
use Rattle.source_reaching.proofs.Ahead.{ahead_none, ahead_one, ahead_then, own_followable}
use Rattle.source_reaching.proofs.Among.{followable_among, stands_on, step_up}

module _ (p : Program) (t : ℕ) where
  pub ahead_among_none : (s : SourceState) → IsAheadAmong p t s s
  ahead_among_none s is = (is, λ others. ahead_none p (among others s))

  pub ahead_among_then : (s r q : SourceState) → IsAheadAmong p t s r → IsAheadAmong p t r q → IsAheadAmong p t s q
  ahead_among_then s r q first second is = (
    (second (first is).0).0,
    λ others. ahead_then p (among others s) (among others r) (among others q) ((first is).1 others)
        ((second (first is).0).1 others),
  )

  pub followed_among_then : (s r q : SourceState) (f : Followed) → IsAheadAmong p t s r → IsFollowedAmong p t r q f
      → IsFollowedAmong p t s q f
  followed_among_then s r q Stopped first second = ahead_among_then s r q first second
  followed_among_then s r q Went first second = ahead_among_then s r q first second
  followed_among_then s r q (Choices actions) first second = (ahead_among_then s r q first second.0, second.1)
  followed_among_then s r q Lost first second = tt

  -- the one calm action of the process was done
  pub ahead_among_one : (s : SourceState) (a : Action) (s' : SourceState) → IsFollowable p s t (a ∷ [])
      → IsStep p s a s' → IsAheadAmong p t s s'
  ahead_among_one s a s' is step there = (
    stands_on p s a s' t step there,
    λ others. ahead_one p (among others s) t a (followable_among others p s t (a ∷ []) there is) (among others s')
        (step_up others p s a s' step),
  )

  pub own_among : (s s' : SourceState) (kind : Kind) → IsOwnTaken p t (Some kind) s s' → IsCalmKind kind
      → IsAheadAmong p t s s'
  own_among s s' kind is calm =
      ahead_among_one s (by t kind) s' (own_followable p s s' t kind is calm) (inl is.0)

  pub choices_among : (s : SourceState) (actions : List Action) → IsFollowable p s t actions → IsSome (s.process t)
      → (others : ℕ → Option Process) → IsFollowable p (among others s) t actions
  choices_among s actions is there others = followable_among others p s t actions there is
