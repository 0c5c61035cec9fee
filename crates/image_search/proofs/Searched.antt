-- How far a search has come, and what it knows at its end.
use Rattle.std.proofs.Common.{◌≡◌, ◌<◌, ◌≤◌, ◌∙◌, ◌+◌, ◌⊎◌, ℕ, All, Bool, Contains, List, ap, arith, get_or, inl, inr}
use Rattle.std.proofs.Common.{length, refl, slice_get, subst, sym, take, Some, None, Option}
use Rattle.std.proofs.lemmas.List.{get_or_append_left, length-append, length-map, length-take, take-append-le, take_all}
use Rattle.std.proofs.lemmas.List.Elements.{All-contains, All-more, All-weaker}
use Rattle.std.proofs.lemmas.Option.{get_or_from_slice_get, slice_get_within, slice_get-map, same_Some}
use Rattle.std.specs.Prelude.{IfSome, MatchBool, MatchOption, option_map, false, true}
use Rattle.isa.specs.Programs.{Program}
use Rattle.machine.specs.States.{opening_state}
use Rattle.proof_image_search.specs.Searching.{HasFailed, IsCompleteBy, IsCovered, IsExpanded, IsStuck, Kept, May, kills_by}
use Rattle.proof_image_search.proofs.Closing.{grown, never_broken, never_failed, never_stuck}
use Rattle.image_states.specs.Nexts.{AreNexts, Covers, Reaches}
use Rattle.image_states.specs.Packed.{IsGrown, IsPrefix, IsWithin, kept_of}
use Rattle.image_states.proofs.Growing.{kept_still, prefix_contains}
use Rattle.image_states.proofs.Subsets.{contains_map}
use Rattle.image_states.specs.declared.bound.Bound.TheVariants as reason
use Rattle.image_states.specs.declared.next.Next.{Next as NextOf}
use Rattle.image_states.specs.declared.packed.Packed.{Packed as PackedOf}
use Rattle.image_states.specs.declared.parts.Parts.{Parts as PartsOf}
use Rattle.image_search.specs.declared.kept.KeptStates.{KeptStates as KeptOf}
use Rattle.image_search.specs.declared.ending.Bound.{Bound}
use Rattle.image_search.specs.declared.ending.Bound.TheVariants.{States, Nexts, Choice}
use Rattle.image_search.specs.declared.ending.Ending.{Ending}
use Rattle.image_search.specs.declared.ending.Ending.TheVariants.{Complete, Stuck, Failed, Broken, Bounded}
use Rattle.image_search.specs.declared.ends.Ends.{Ends as EndsOf}
use Rattle.image_search.specs.Ends.{AreAll, AreAllBy, EndsSo, HasEnded, HasEndedBy, IsMet, IsMetIn}
use Rattle.image_search.specs.Kept.{AreEnds, HasKey, IsApartIn, IsEnd, IsExpandedAt, IsLookedAt, IsMetBy, IsPlain, IsSound}
use Rattle.image_search.specs.Kept.{IsTold, IsToldAt, states_of}
use Rattle.image_search.specs.Never.{NeverBreaks, NeverFails, NeverStuck}
use Rattle.image_search.proofs.Keeping.{contains_at, key_in, key_kept}

-- where all that may come next of the state at a place is kept, it is expanded
module _ (p : Program) (may : May) (kept kept' : KeptOf) (place : ℕ) (x : PackedOf) (mid : PartsOf) (found : List NextOf)
    (sound : IsSound kept) (here : slice_get kept.states.items place ≡ Some x) (grows : IsGrown kept.parts mid)
    (nexts : AreNexts p may mid x found) (same : kept'.parts ≡ mid)
    (more : IsPrefix kept.states.items kept'.states.items)
    (all : (next : NextOf) → Contains found next → IsWithin mid next.state → HasKey kept'.states.items next.state) where
  is_in : Contains kept.states.items x
  is_in = contains_at kept.states.items place x here

  still : kept_of p mid x ≡ kept_of p kept.parts x
  still = kept_still kept.parts mid grows p x (All-contains (IsWithin kept.parts) kept.states.items x sound is_in)

  reach : (y : PackedOf) → HasKey kept'.states.items y → Contains (states_of p kept') (kept_of p mid y)
  reach y is = key_kept p kept' mid same y is

  go : IsExpanded p mid.alone may (states_of p kept') (kept_of p mid x)
  go step s' done named few = by_case (nexts step.thread step s' refl done named few)
    where
      by_case : Covers p mid x s' (x.killed + kills_by step.doing) ⊎ Reaches p mid found s' (x.killed + kills_by step.doing)
          → (m : ℕ) × IsCovered p mid.alone (states_of p kept') m s' (x.killed + kills_by step.doing)
      by_case (inl covers) = covers (states_of p kept')
          (reach x (key_in kept'.states.items x (prefix_contains kept.states.items kept'.states.items x more is_in)))
      by_case (inr r) = r.covers (states_of p kept') (reach r.next.state (all r.next r.found r.within))

  pub expanded : IsExpanded p kept.parts.alone may (states_of p kept') (kept_of p kept.parts x)
  expanded = subst (λ (alone : Bool). IsExpanded p alone may (states_of p kept') (kept_of p kept.parts x)) grows.alone
      (subst (IsExpanded p mid.alone may (states_of p kept')) still go)

  pub expanded_at : IsExpandedAt p kept.parts.alone may (states_of p kept) (states_of p kept') place
  expanded_at = (
    kept_of p kept.parts x,
    slice_get-map (kept_of p kept.parts) kept.states.items place ∙ ap (option_map (kept_of p kept.parts)) here,
    expanded,
  )

-- the state in which an image begins is covered
pub opened : (p : Program) (kept : KeptOf) (mid : PartsOf) (x : PackedOf) → Covers p mid x (opening_state p) 0
    → kept.parts ≡ mid → HasKey kept.states.items x
    → (m : ℕ) × IsCovered p kept.parts.alone (states_of p kept) m (opening_state p) 0
opened p kept mid x covers same is =
    subst (λ (parts : PartsOf). (m : ℕ) × IsCovered p parts.alone (states_of p kept) m (opening_state p) 0) (sym same)
    (covers (states_of p kept) (key_kept p kept mid same x is))

-- what is so where there is none, in place of another
pub match_none : {X : Type 0} (A B : Type 0) (P : X → Type 0) (o : Option X) → (A → B) → MatchOption o A P
    → MatchOption o B P
match_none A B P None f is = f is
match_none A B P (Some x) f is = is

expanded_still : (p : Program) (alone : Bool) (may : May) (kept kept' : List Kept) → IsPrefix kept kept' → (r : Kept)
    → IsExpanded p alone may kept r → IsExpanded p alone may kept' r
expanded_still p alone may kept kept' longer r is step s' done named few =
    let covered = is step s' done named few in (
      covered.0,
      grown p alone kept kept' (λ y. prefix_contains kept kept' y longer) covered.0 s' (r.killed + kills_by step.doing)
          covered.1,
    )

-- the kept states before this place are expanded, and none of them is an end, unless one was passed over
pub record IsSoFar (p : Program) (alone : Bool) (may : May) (kept : List Kept) (place passed : ℕ) : Type 0 where
  pub opens : (m : ℕ) × IsCovered p alone kept m (opening_state p) 0
  pub within : place ≤ length kept
  pub expanded : All (IsExpanded p alone may kept) (take place kept)
  pub apart : All (IsApartIn p alone) (take place kept)
  pub plain : passed ≡ 0 → All (IsPlain p) (take place kept)
  pub ends : 0 < passed → (r : Kept) × Contains kept r × IsEnd p r

none_yet : {X : Type 0} (P : X → Type 0) (xs : List X) → All P (take 0 xs)
none_yet P xs k d less = absurd (omega (arith, less, length-take 0 xs))

pub at_first : (p : Program) (alone : Bool) (may : May) (kept : List Kept)
    → (m : ℕ) × IsCovered p alone kept m (opening_state p) 0 → IsSoFar p alone may kept 0 0
at_first p alone may kept opens = record {
  opens = opens;
  within = omega arith;
  expanded = none_yet (IsExpanded p alone may kept) kept;
  apart = none_yet (IsApartIn p alone) kept;
  plain = λ e. none_yet (IsPlain p) kept;
  ends = λ less. absurd (omega (arith, less));
}

module _ (p : Program) (alone : Bool) (may : May) (kept kept' : List Kept) (place passed passed' : ℕ)
    (so_far : IsSoFar p alone may kept place passed) (longer : IsPrefix kept kept')
    (looked : IsLookedAt p alone may kept kept' place passed passed')
    (apart : (r : Kept) → slice_get kept place ≡ Some r → IsApartIn p alone r) where
  less : place < length kept
  less = slice_get_within kept place looked.state looked.here

  long : length kept' ≡ length kept + length longer.0
  long = ap length longer.1 ∙ length-append kept longer.0

  seen : take place kept' ≡ take place kept
  seen = ap (take place) longer.1 ∙ take-append-le place kept longer.0 so_far.within

  there : get_or kept' place looked.state ≡ looked.state
  there = ap (λ l. get_or l place looked.state) longer.1
      ∙ get_or_append_left kept longer.0 looked.state place less
      ∙ get_or_from_slice_get kept place looked.state looked.state looked.here

  one_more : (P : Kept → Type 0) → All P (take place kept) → P looked.state → All P (take (place + 1) kept')
  one_more P all one = All-more P kept' place looked.state (omega (arith, less, long)) (subst (All P) (sym seen) all)
      (subst P (sym there) one)

  plain_on : IsTold p passed passed' looked.state → passed' ≡ 0 → All (IsPlain p) (take (place + 1) kept')
  plain_on (inl told) none = one_more (IsPlain p) (so_far.plain (sym told.0 ∙ none)) told.1
  plain_on (inr told) none = absurd (let some : 0 < passed' = told.0 in omega (arith, some, none))

  ends_on : IsTold p passed passed' looked.state → 0 < passed' → (r : Kept) × Contains kept' r × IsEnd p r
  ends_on (inl told) some =
      let old = so_far.ends (subst (λ n. 0 < n) told.0 some) in
      (old.0, prefix_contains kept kept' old.0 longer old.1, old.2)
  ends_on (inr told) some =
      (looked.state, prefix_contains kept kept' looked.state longer (contains_at kept place looked.state looked.here), told.1)

  -- one state more was looked at
  pub goes_on : IsSoFar p alone may kept' (place + 1) passed'
  goes_on = record {
    opens = (
      so_far.opens.0,
      grown p alone kept kept' (λ y. prefix_contains kept kept' y longer) so_far.opens.0
          (opening_state p) 0 so_far.opens.1,
    );
    within = omega (arith, less, long);
    expanded = one_more (IsExpanded p alone may kept')
        (All-weaker (IsExpanded p alone may kept) (IsExpanded p alone may kept')
        (expanded_still p alone may kept kept' longer) (take place kept) so_far.expanded)
        looked.expanded;
    apart = one_more (IsApartIn p alone) so_far.apart (apart looked.state looked.here);
    plain = plain_on looked.told;
    ends = ends_on looked.told;
  }

-- all were looked at
module _ (p : Program) (alone : Bool) (may : May) (kept : List Kept) (place passed : ℕ)
    (so_far : IsSoFar p alone may kept place passed) (end : length kept ≤ place) where
  completed : IsCompleteBy p alone may kept
  completed = record {
    opens = so_far.opens;
    expanded = λ r is. All-contains (IsExpanded p alone may kept) kept r
        (subst (All (IsExpanded p alone may kept)) (take_all place kept end) so_far.expanded) is;
    apart = λ f r is. All-contains (IsApartIn p alone) kept r
        (subst (All (IsApartIn p alone)) (take_all place kept end) so_far.apart) is f;
  }

  all_done : passed ≡ 0 → AreAllBy p alone may kept
  all_done none = record {
    complete = completed;
    plain = subst (All (IsPlain p)) (take_all place kept end) (so_far.plain none);
  }

  pub ended_so : (most : ℕ) (ending : Ending) → EndsSo passed ending → HasEndedBy p alone may most kept ending
  ended_so most Complete so = all_done so
  ended_so most (Bounded Choice) so = let end = so_far.ends so in (end.0, end.1, inl end.2)
  ended_so most (Bounded States) so = absurd so
  ended_so most (Bounded (Nexts why)) so = absurd so
  ended_so most (Stuck turns) so = absurd so
  ended_so most (Failed turns) so = absurd so
  ended_so most (Broken turns) so = absurd so

-- what an ending says, whether or not exits were followed alone
pub ended_either : (p : Program) (alone : Bool) (may : May) (most : ℕ) (kept : List Kept) (ending : Ending)
    → HasEndedBy p alone may most kept ending → HasEnded p may most kept ending
ended_either p alone may most kept Complete all = record { complete = (alone, all.complete); plain = all.plain }
ended_either p alone may most kept (Stuck turns) is = is
ended_either p alone may most kept (Failed turns) is = is
ended_either p alone may most kept (Broken turns) is = is
ended_either p alone may most kept (Bounded bound) is = is

-- an ending that was told, if there was one
pub some_ended : (p : Program) (alone alone' : Bool) (may : May) (most most' : ℕ) (kept : List Kept) (o : Option Ending)
    (Nothing : Type 0) → alone ≡ alone' → most ≡ most' → MatchOption o Nothing (HasEndedBy p alone may most kept)
    → IfSome o (HasEndedBy p alone' may most' kept)
some_ended p alone alone' may most most' kept None Nothing same many h = tt
some_ended p alone alone' may most most' kept (Some e) Nothing same many h =
    subst (λ (b : Bool). HasEndedBy p b may most' kept e) same (subst (λ n. HasEndedBy p alone may n kept e) many h)

-- what is told and what is expanded at a place is of one state
pub looked_so : (p : Program) (alone : Bool) (may : May) (kept kept' : List Kept) (place passed passed' : ℕ)
    → IsToldAt p kept place passed passed' → IsExpandedAt p alone may kept kept' place
    → IsLookedAt p alone may kept kept' place passed passed'
looked_so p alone may kept kept' place passed passed' told is = record {
  state = is.0;
  here = is.1;
  expanded = is.2;
  told = subst (IsTold p passed passed') (same_Some told.0 is.0 (sym told.1 ∙ is.1)) told.2;
}

-- a bound that is met where a state is kept
pub met_in : (p : Program) (may : May) (kept : KeptOf) (bound : Bound) → IsMetBy kept bound → IsMetIn p may kept bound
met_in p may kept States is = is
met_in p may kept (Nexts reason.Parts) is = is
met_in p may kept (Nexts reason.Sleepers) is = absurd is
met_in p may kept Choice is = absurd is

-- or where what may come next of one is looked for
pub met_so : (p : Program) (may : May) (kept : KeptOf) (bound : Bound) → IsMetIn p may kept bound
    → IsMet p may kept.most (states_of p kept) bound
met_so p may kept States is = omega (arith, is, length-map kept.states.items (kept_of p kept.parts))
met_so p may kept (Nexts reason.Parts) is = (kept, refl, is)
met_so p may kept (Nexts reason.Sleepers) is = is
met_so p may kept Choice is = (
  kept_of p kept.parts is.0,
  contains_map (kept_of p kept.parts) kept.states.items is.0 is.1,
  inr is.2,
)

-- what is so of a bound that another call met
pub match_both : {X : Type 0} (A B : Type 0) (P Q : X → Type 0) (o : Option X) → (A → B) → ((x : X) → P x → Q x)
    → MatchOption o A P → MatchOption o B Q
match_both A B P Q None f g is = f is
match_both A B P Q (Some x) f g is = g x is

-- what the tests tell of a state
pub plain_so : (p : Program) (r : Kept) (e : EndsOf) → AreEnds p r e → e.stuck ≡ false → e.failed ≡ false
    → e.broken ≡ false → IsPlain p r
plain_so p r e are stuck failed broken = record {
  moves = subst (λ b. MatchBool b (IsStuck r.state) (IsStuck r.state → ⊥)) stuck are.stuck;
  lives = subst (λ b. MatchBool b (HasFailed r.state) (HasFailed r.state → ⊥)) failed are.failed;
  steps = are.whole broken;
}

pub end_so : (p : Program) (r : Kept) (e : EndsOf) → AreEnds p r e
    → (e.stuck ≡ true) ⊎ (e.failed ≡ true) ⊎ (e.broken ≡ true) → IsEnd p r
end_so p r e are (inl is) = inl (subst (λ b. MatchBool b (IsStuck r.state) (IsStuck r.state → ⊥)) is are.stuck)
end_so p r e are (inr (inl is)) =
    inr (inl (subst (λ b. MatchBool b (HasFailed r.state) (HasFailed r.state → ⊥)) is are.failed))
end_so p r e are (inr (inr is)) = inr (inr (are.broken is))

-- then no run comes to an end that is looked for
module _ (p : Program) (may : May) (kept : List Kept) (all : AreAll p may kept) where
  plain : (r : Kept) → Contains kept r → IsPlain p r
  plain r is = All-contains (IsPlain p) kept r all.plain is

  pub never_stuck_so : NeverStuck p may
  never_stuck_so buckets steps s some run from =
      never_stuck p all.complete.0 may kept all.complete.1 buckets steps s some run from (λ r is. (plain r is).moves)

  pub never_fails_so : NeverFails p may
  never_fails_so buckets steps s some run from =
      never_failed p all.complete.0 may kept all.complete.1 buckets steps s some run from (λ r is. (plain r is).lives)

  pub never_breaks_so : NeverBreaks p may
  never_breaks_so buckets steps s some run from =
      never_broken p all.complete.0 may kept all.complete.1 buckets steps s some run from (λ r is. (plain r is).steps)
