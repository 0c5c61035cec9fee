-- What is deferred of a process may be deferred behind the actions of others too.
use Rattle.std.proofs.Common.{◌≡◌, ℕ, ◌+◌, ◌≤◌, true, List, [], ◌∷◌, Option, Some, None, refl, sym, ap}
use Rattle.std.proofs.Common.{◌∙◌, subst, arith}
use Rattle.std.proofs.lemmas.Bool.{false≢true}
use Rattle.program.specs.Trees.{Program}
use Rattle.meaning.specs.Values.{Variables}
use Rattle.meaning.specs.Labels.{Kind, Label, Alone, Stores, Forks, FindsFull, Claims, FindsClaimed, Joins, Enters}
use Rattle.meaning.specs.Labels.{Resumes, Exits, Waits, Notifies, Broadcasts, Abandons, Ends}
use Rattle.meaning.specs.Table.{Table, HeldBy, Allows}
use Rattle.meaning.specs.Processes.{Process}
use Rattle.proof_commutation.specs.Deferring.{is_internal, SameHeld, MayDefer, LeadsDeferred, LeadsDeferredAt}
use Rattle.words.proofs.Updates.{at_put}

-- the process table stays full, and what is claimed stays claimed
pub record Grows (T T' : Table) : Type 0 where
  pub full : T.most ≤ T.made → T'.most ≤ T'.made
  pub claimed : (child : ℕ) → T.claimed child ≡ true → T'.claimed child ≡ true

pub same_grows : (T T' : Table) → T'.most ≡ T.most → T'.made ≡ T.made → T'.claimed ≡ T.claimed → Grows T T'
same_grows T T' most made claimed = record {
  full = λ h. subst (λ n. T'.most ≤ n) (sym made) (subst (λ n. n ≤ T.made) (sym most) h);
  claimed = λ child h. subst (λ f. f child ≡ true) (sym claimed) h;
}

pub grows : (t : ℕ) (label : Label) (T T' : Table) → Allows t label T T' → Grows T T'
grows t (Forks child) T T' a = record {
  full = λ h. subst (λ X. X.most ≤ X.made) (sym a.2) (let more : T.most ≤ T.made + 1 = omega (arith, h) in more);
  claimed = λ other h. subst (λ X. X.claimed other ≡ true) (sym a.2) h;
}
grows t (Claims child) T T' a = record {
  full = λ h. subst (λ X. X.most ≤ X.made) (sym a.1) h;
  claimed = λ other h. subst (λ X. X.claimed other ≡ true) (sym a.1)
      (at_put T.claimed child true other (λ b. b ≡ true) (λ e. refl) (λ o. h));
}
grows t (Alone kind) T T' a = same_grows T T' (ap (λ X. X.most) a) (ap (λ X. X.made) a) (ap (λ X. X.claimed) a)
grows t (Stores m) T T' a = same_grows T T' (ap (λ X. X.most) a) (ap (λ X. X.made) a) (ap (λ X. X.claimed) a)
grows t FindsFull T T' a = same_grows T T' (ap (λ X. X.most) a.1) (ap (λ X. X.made) a.1) (ap (λ X. X.claimed) a.1)
grows t (FindsClaimed child) T T' a =
    same_grows T T' (ap (λ X. X.most) a.1) (ap (λ X. X.made) a.1) (ap (λ X. X.claimed) a.1)
grows t (Joins child end) T T' a =
    same_grows T T' (ap (λ X. X.most) a.1) (ap (λ X. X.made) a.1) (ap (λ X. X.claimed) a.1)
grows t (Enters m w) T T' a = same_grows T T' (ap (λ X. X.most) a.1) (ap (λ X. X.made) a.1) (ap (λ X. X.claimed) a.1)
grows t (Resumes m w) T T' a = same_grows T T' (ap (λ X. X.most) a.2) (ap (λ X. X.made) a.2) (ap (λ X. X.claimed) a.2)
grows t (Exits m) T T' a = same_grows T T' (ap (λ X. X.most) a) (ap (λ X. X.made) a) (ap (λ X. X.claimed) a)
grows t (Waits c) T T' a = same_grows T T' (ap (λ X. X.most) a) (ap (λ X. X.made) a) (ap (λ X. X.claimed) a)
grows t (Notifies c resumed) T T' a =
    same_grows T T' (ap (λ X. X.most) a.1) (ap (λ X. X.made) a.1) (ap (λ X. X.claimed) a.1)
grows t (Broadcasts c resumed) T T' a =
    same_grows T T' (ap (λ X. X.most) a.1) (ap (λ X. X.made) a.1) (ap (λ X. X.claimed) a.1)
grows t (Abandons m) T T' a = same_grows T T' (ap (λ X. X.most) a) (ap (λ X. X.made) a) (ap (λ X. X.claimed) a)
grows t (Ends end) T T' a = same_grows T T' (ap (λ X. X.most) a) (ap (λ X. X.made) a) (ap (λ X. X.claimed) a)

internal_allowed : (u : ℕ) (label : Label) (T T' : Table) → is_internal label ≡ true → Grows T T' → Allows u label T T
    → Allows u label T' T'
internal_allowed u (Alone kind) T T' internal g a = refl
internal_allowed u FindsFull T T' internal g a = (g.full a.0, refl)
internal_allowed u (FindsClaimed child) T T' internal g a = (g.claimed child a.0, refl)
internal_allowed u other T T' internal g a = absurd (false≢true internal)

-- of a process that keeps its monitors, and the values in them
pub record Stays (u : ℕ) (v v' : Variables) (T T' : Table) : Type 0 where
  pub grows : Grows T T'
  pub held : (m : ℕ) → T.hold m ≡ HeldBy u → T'.hold m ≡ HeldBy u
  pub same : SameHeld u T v v'

module _ (p : Program) (u : ℕ) (v v' : Variables) (T T' : Table) (s : Stays u v v' T T') where
  may_still : (q r : Process) (label : Label) → MayDefer p u v T q label r → MayDefer p u v' T' q label r
  may_still q r label may = record {
    internal = may.internal;
    takes = λ v'' also. may.takes v'' (λ m is n i. s.same m is n i ∙ also m (s.held m is) n i);
    allows = internal_allowed u label T T' may.internal s.grows may.allows;
    goes_on = may.goes_on;
  }

  deferred_still : (ks : List Kind) (q r : Process) → LeadsDeferred p u v T ks q r → LeadsDeferred p u v' T' ks q r
  deferred_still [] q r w = w
  deferred_still (k ∷ ks) q r w = (w.0, w.1, w.2, may_still q w.1 w.0 w.3, deferred_still ks w.1 r w.4)

  pub at_still : (ks : List Kind) (x y : Option Process) → LeadsDeferredAt p u v T ks x y
      → LeadsDeferredAt p u v' T' ks x y
  at_still ks None None w = w
  at_still ks None (Some r) w = absurd w
  at_still ks (Some q) None w = absurd w
  at_still ks (Some q) (Some r) w = deferred_still ks q r w
