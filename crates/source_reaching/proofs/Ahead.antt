-- What calm actions of one process lead to, and how far what is kept covers.
use Rattle.std.proofs.Common.{◌≡◌, ◌+◌, ℕ, zero, suc, List, [], ◌∷◌, Some, refl}
use Rattle.std.proofs.Common.{All, Contains, sym, ◌∙◌, subst, arith, inl, inr}
use Rattle.std.proofs.lemmas.List.Elements.{All-contains}
use Rattle.program.specs.Trees.{Program}
use Rattle.meaning.specs.Labels.{Action, Kind}
use Rattle.meaning.specs.Runs.{CanMove, IsAction, IsStep}
use Rattle.meaning.specs.States.{SourceState}
use Rattle.meaning.proofs.Unique.{step_once}
use Rattle.proof_exploration.specs.Exploring.{IsCalmKind}
use Rattle.proof_exploration.specs.Searching.{IsCovered}
use Rattle.proof_exploration.proofs.Representing.{calm_named}
use Rattle.source_states.specs.Own.{IsOwnTaken}
use Rattle.source_reaching.specs.Choices.{AreOwnChoices, by}
use Rattle.source_reaching.specs.Covered.{IsAhead, IsFollowable}

-- more actions are room for what fewer are
module _ (p : Program) (kept : List SourceState) where
  covered_suc : (n : ℕ) (s : SourceState) → IsCovered p kept n s → IsCovered p kept (suc n) s
  covered_suc zero s is = inl is
  covered_suc (suc n) s (inl is) = inl is
  covered_suc (suc n) s (inr (t, calm, all)) =
      inr (t, calm, λ kind after x. covered_suc n after (all kind after x))

  abbrev up : ℕ → ℕ → ℕ
  up zero n = n
  up (suc k) n = suc (up k n)

  up_is : (k n : ℕ) → up k n ≡ k + n
  up_is zero n = omega arith
  up_is (suc k) n = let rest : up k n ≡ k + n = up_is k n in omega (arith, rest)

  covered_up : (k n : ℕ) (s : SourceState) → IsCovered p kept n s → IsCovered p kept (up k n) s
  covered_up zero n s is = is
  covered_up (suc k) n s is = covered_suc (up k n) s (covered_up k n s is)

  pub covered_to : (n k m : ℕ) (s : SourceState) → k + n ≡ m → IsCovered p kept n s → IsCovered p kept m s
  covered_to n k m s e is = subst (λ x. IsCovered p kept x s) (up_is k n ∙ e) (covered_up k n s is)

module _ (p : Program) where
  pub ahead_none : (s : SourceState) → IsAhead p s s
  ahead_none s kept n is = (n, is)

  pub ahead_then : (s r q : SourceState) → IsAhead p s r → IsAhead p r q → IsAhead p s q
  ahead_then s r q first second kept n is =
      let mid : (m : ℕ) × IsCovered p kept m r = second kept n is in
      first kept mid.0 mid.1

  -- a process that can move, and whose choices are calm
  pub followable : (s : SourceState) (t : ℕ) (actions : List Action) → CanMove p s t → AreOwnChoices p s t actions
      → All (λ a. IsCalmKind a.kind) actions → IsFollowable p s t actions
  followable s t actions can are calm =
      let tried : (k : Kind) × Contains actions (by t k) × IsAction p s (by t k) can.after =
      are can.kind can.after can.moves in
      record {
        calm = calm_named p s t tried.0 can.after tried.2
            (All-contains (λ a. IsCalmKind a.kind) actions (by t tried.0) calm tried.1);
        choices = are;
      }

  the_one : (a b : Action) → Contains (a ∷ []) b → b ≡ a
  the_one a b (zero, l, e) = sym e
  the_one a b (suc k, l, e) = absurd (omega (arith, l))

  -- where there is one choice, it is possible, and each action leads where it does
  module _ (s : SourceState) (t : ℕ) (a : Action) (is : IsFollowable p s t (a ∷ [])) where
    pub one_possible : ((u : SourceState) → IsStep p s a u → ⊥) → ⊥
    one_possible never =
        let tried : (k : Kind) × Contains (a ∷ []) (by t k) × IsAction p s (by t k) (is.calm).after =
        is.choices (is.calm).kind (is.calm).after (is.calm).moves in
        never (is.calm).after (inl (subst (λ b. IsAction p s b (is.calm).after) (the_one a (by t tried.0) tried.1)
        tried.2))

    pub ahead_one : (s' : SourceState) → IsStep p s a s' → IsAhead p s s'
    ahead_one s' step kept n covered = (
      suc n,
      inr (
        t,
        is.calm,
        λ kind after x.
            let tried : (k : Kind) × Contains (a ∷ []) (by t k) × IsAction p s (by t k) after =
            is.choices kind after x in
            subst (IsCovered p kept n)
            (step_once p a s s' after step
            (inl (subst (λ b. IsAction p s b after) (the_one a (by t tried.0) tried.1) tried.2)))
            covered,
      ),
    )

-- a process took its next action, which is the only one, and calm
pub own_followable : (p : Program) (s s' : SourceState) (n : ℕ) (kind : Kind) → IsOwnTaken p n (Some kind) s s'
    → IsCalmKind kind → IsFollowable p s n (by n kind ∷ [])
own_followable p s s' n kind is calm = record {
  calm = calm_named p s n kind s' is.0 calm;
  choices = λ other u x. (
    kind,
    (zero, omega arith, refl),
    subst (λ k. IsAction p s (by n k) u) (is.1 other u x) x,
  );
}
