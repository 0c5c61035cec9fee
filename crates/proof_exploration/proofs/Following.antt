-- Runs in which one process alone is followed, where one is.
use Rattle.std.proofs.Common.{false, ◌≡◌, ◌⊎◌, ℕ, zero, suc, List, [], ◌∷◌, ◌++◌, length, Option, Some, None}
use Rattle.std.proofs.Common.{refl, sym, ap, ◌∙◌, subst, inl, inr, arith}
use Rattle.program.specs.Trees.{Program}
use Rattle.program.specs.WellFormed.{WellFormed}
use Rattle.meaning.specs.Labels.{Action, Kind}
use Rattle.meaning.specs.States.{SourceState, opening}
use Rattle.meaning.specs.Runs.{IsAction, Leads}
use Rattle.meaning.proofs.Led.{leads_more}
use Rattle.proof_commutation.proofs.Behind.{act}
use Rattle.proof_exploration.specs.Exploring.{IsLike, IsStuck, MovesCalmly, LeadsAlone, IsFollowed}
use Rattle.proof_exploration.specs.Exploring.{PicksCalm, Follows}
use Rattle.proof_exploration.proofs.Front.{Idle, Busy, front}
use Rattle.proof_exploration.proofs.Alike.{like_self, like_back, like_trans, like_stuck}

-- a run as long that follows, to an end that is alike
pub record Followed (p : Program) (pick : SourceState → Option ℕ) (s : SourceState) (n : ℕ)
    (e : SourceState) : Type 0 where
  pub actions : List Action
  pub end : SourceState
  pub follows : Follows p pick s actions end
  pub like : IsLike end e
  pub long : length actions ≡ n

module _ (p : Program) (wf : WellFormed p) (pick : SourceState → Option ℕ) (picks : PicksCalm p pick) where
  nobody : (s : SourceState) (o : Option ℕ) (q : ℕ) → pick s ≡ o → o ≡ None → IsFollowed (pick s) q
  nobody s o q is none = subst (λ x. IsFollowed x q) (sym (is ∙ none)) tt

  somebody : (s : SourceState) (t : ℕ) → pick s ≡ Some t → IsFollowed (pick s) t
  somebody s t is = subst (λ x. IsFollowed x t) (sym is) refl

  -- what is to be proved of runs of n actions
  abbrev Shorter : ℕ → Type 0
  Shorter n = (actions done : List Action) (s e : SourceState) → length actions ≡ n
      → Leads p (opening p) done s → LeadsAlone p s actions e → IsStuck p e → Followed p pick s n e

  one_less : (m n : ℕ) → suc m ≡ suc n → m ≡ n
  one_less m n e = omega (arith, e)

  module _ (n : ℕ) (shorter : Shorter n) (b : Action) (actions done : List Action) (s e : SourceState)
      (long : suc (length actions) ≡ suc n) (run : Leads p (opening p) done s) (led : LeadsAlone p s (b ∷ actions) e)
      (stuck : IsStuck p e) where
    more : (a : Action) (mid : SourceState) → IsAction p s a mid → IsFollowed (pick s) a.process
        → (e' : SourceState) → IsLike e' e → Followed p pick mid n e' → Followed p pick s (suc n) e
    more a mid step is e' like rest = record {
      actions = a ∷ rest.actions;
      end = rest.end;
      follows = (mid, step, is, rest.follows);
      like = like_trans rest.end e' e rest.like like;
      long = ap suc rest.long;
    }

    by_front : (t : ℕ) (k : Kind) (s1 : SourceState) → pick s ≡ Some t
        → Idle p false t k s1 (b ∷ actions) e ⊎ Busy p false t s (b ∷ actions) e → Followed p pick s (suc n) e
    by_front t k s1 is (inl idle) =
        absurd (stuck.rests t (record { kind = k; after = idle.after; moves = idle.moves }))
    by_front t k s1 is (inr busy) = more (act t busy.kind) busy.next busy.moves (somebody s t is) (busy.later).0
        (busy.later).2
        (shorter busy.rest (done ++ act t busy.kind ∷ []) busy.next (busy.later).0
        (one_less (length busy.rest) n (sym busy.shorter ∙ long))
        (leads_more p (opening p) s busy.next done (act t busy.kind) run (inl busy.moves)) (busy.later).1
        (like_stuck p e (busy.later).0 (like_back (busy.later).0 e (busy.later).2) stuck))

    by_pick : (o : Option ℕ) → pick s ≡ o → Followed p pick s (suc n) e
    by_pick None is = more b led.0 led.1 (nobody s None b.process is refl) e (like_self e)
        (shorter actions (done ++ b ∷ []) led.0 e (one_less (length actions) n long)
        (leads_more p (opening p) s led.0 done b run (inl led.1)) led.2 stuck)
    by_pick (Some t) is =
        let calm : MovesCalmly p s t = picks s t is in
        by_front t calm.kind calm.after is
        (front p wf false (b ∷ actions) done s t calm.kind calm.after e run calm.moves calm.calm led)

  pub followed : (n : ℕ) → Shorter n
  followed zero [] done s e long run led stuck =
      record { actions = []; end = e; follows = led; like = like_self e; long = refl }
  followed zero (b ∷ actions) done s e long run led stuck = absurd (omega (arith, long))
  followed (suc n) [] done s e long run led stuck = absurd (omega (arith, long))
  followed (suc n) (b ∷ actions) done s e long run led stuck =
      by_pick n (followed n) b actions done s e long run led stuck (pick s) refl
