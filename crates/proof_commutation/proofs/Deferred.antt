-- Actions of one process that are deferred.
use Rattle.std.proofs.Common.{◌≡◌, ℕ, List, [], ◌∷◌, ◌++◌, Option, Some, None, refl, sym, ap, subst}
use Rattle.program.specs.Trees.{Program}
use Rattle.meaning.specs.Values.{Variables}
use Rattle.meaning.specs.Labels.{End, Kind, Label, kind_of}
use Rattle.meaning.specs.Table.{Table}
use Rattle.meaning.specs.Processes.{Process, Over}
use Rattle.proof_commutation.specs.Deferring.{MayDefer, LeadsDeferred, LeadsDeferredAt}

module _ (p : Program) (t : ℕ) (v : Variables) (T : Table) where
  deferred_more : (ks : List Kind) (a q r : Process) (label : Label) → LeadsDeferred p t v T ks a q
      → MayDefer p t v T q label r → LeadsDeferred p t v T (ks ++ kind_of label ∷ []) a r
  deferred_more [] a q r label w may = (label, r, refl, subst (λ x. MayDefer p t v T x label r) (sym w) may, refl)
  deferred_more (k ∷ ks) a q r label w may = (w.0, w.1, w.2, w.3, deferred_more ks w.1 q r label w.4 may)

  -- one action more is deferred
  pub at_more : (ks : List Kind) (x : Option Process) (q r : Process) (label : Label)
      → LeadsDeferredAt p t v T ks x (Some q) → MayDefer p t v T q label r
      → LeadsDeferredAt p t v T (ks ++ kind_of label ∷ []) x (Some r)
  at_more ks None q r label w may = absurd w
  at_more ks (Some a) q r label w may = deferred_more ks a q r label w may

  -- where nothing is deferred the process stands at the same place
  pub at_same : (x : Option Process) (q : Process) → LeadsDeferredAt p t v T [] x (Some q) → x ≡ Some q
  at_same None q w = absurd w
  at_same (Some a) q w = ap Some w

  pub at_self : (x : Option Process) → LeadsDeferredAt p t v T [] x x
  at_self None = refl
  at_self (Some q) = refl

  -- of a process that wasn't made nothing is deferred
  pub at_none : (ks : List Kind) (x : Option Process) → LeadsDeferredAt p t v T ks x None → ks ≡ []
  at_none ks None w = w
  at_none ks (Some q) w = absurd w

  pub at_equal : (x y : Option Process) → LeadsDeferredAt p t v T [] x y → x ≡ y
  at_equal None None w = refl
  at_equal None (Some r) w = absurd w
  at_equal (Some q) None w = absurd w
  at_equal (Some q) (Some r) w = ap Some w

  -- the first of the actions that are deferred
  pub record First (k : Kind) (ks : List Kind) (x y : Option Process) : Type 0 where
    pub before : Process
    pub mid : Process
    pub after : Process
    pub label : Label
    pub stands : x ≡ Some before
    pub ahead : y ≡ Some after
    pub named : k ≡ kind_of label
    pub may : MayDefer p t v T before label mid
    pub later : LeadsDeferred p t v T ks mid after

  pub at_first : (k : Kind) (ks : List Kind) (x y : Option Process) → LeadsDeferredAt p t v T (k ∷ ks) x y
      → First k ks x y
  at_first k ks None None w = absurd (cc)
  at_first k ks None (Some r) w = absurd w
  at_first k ks (Some q) None w = absurd w
  at_first k ks (Some q) (Some r) w = record {
    before = q;
    mid = w.1;
    after = r;
    label = w.0;
    stands = refl;
    ahead = refl;
    named = w.2;
    may = w.3;
    later = w.4;
  }

  deferred_over : (ks : List Kind) (r : Process) (end : End) → LeadsDeferred p t v T ks (Over end) r → r ≡ Over end
  deferred_over [] r end w = sym w
  deferred_over (k ∷ ks) r end w = absurd (w.3.takes v (λ m held n i. refl))

  deferred_ends : (ks : List Kind) (q : Process) (end : End) → LeadsDeferred p t v T ks q (Over end) → q ≡ Over end
  deferred_ends [] q end w = w
  deferred_ends (k ∷ ks) q end w = absurd (w.3.goes_on end (deferred_ends ks w.1 end w.4))

  -- a process is over ahead where it is behind
  pub over_ahead : (ks : List Kind) (x y : Option Process) (end : End) → LeadsDeferredAt p t v T ks x y
      → x ≡ Some (Over end) → y ≡ Some (Over end)
  over_ahead ks None y end w e = absurd (cc)
  over_ahead ks (Some q) None end w e = absurd w
  over_ahead ks (Some q) (Some r) end w e =
      let is : q ≡ Over end = cc in
      ap Some (deferred_over ks r end (subst (λ z. LeadsDeferred p t v T ks z r) is w))

  pub over_behind : (ks : List Kind) (x y : Option Process) (end : End) → LeadsDeferredAt p t v T ks x y
      → y ≡ Some (Over end) → x ≡ Some (Over end)
  over_behind ks x None end w e = absurd (cc)
  over_behind ks None (Some r) end w e = absurd w
  over_behind ks (Some q) (Some r) end w e =
      let is : r ≡ Over end = cc in
      ap Some (deferred_ends ks q end (subst (λ z. LeadsDeferred p t v T ks q z) is w))
