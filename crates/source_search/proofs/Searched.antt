-- How far a search has come, and what it knows at its end.
use Rattle.std.proofs.Common.{◌≡◌, ◌<◌, ◌≤◌, ◌+◌, ℕ, Bool, List, [], ◌∷◌, ◌++◌, length, get_or, take, All}
use Rattle.std.proofs.Common.{Contains, Option, Some, None, sym, refl, ap, ◌∙◌, subst, arith, true, false, inl, inr}
use Rattle.std.specs.Prelude.{IsSome, is_some, nat_lt, ◌||◌}
use Rattle.std.proofs.lemmas.List.{get_or_append_left, length-append, length-take, take-append-le, take_all}
use Rattle.std.proofs.lemmas.List.Elements.{All-contains, All-more, All-weaker}
use Rattle.std.proofs.lemmas.Option.{get_or_from_slice_get, slice_get_within}
use Rattle.program.specs.Trees.{Program}
use Rattle.program.specs.WellFormed.{WellFormed}
use Rattle.meaning.specs.Labels.{Action, Cause, Faulted, Kill, Killed, Kind, Stray}
use Rattle.meaning.specs.Processes.{Process}
use Rattle.meaning.specs.Runs.{IsRun, IsStep, Leads}
use Rattle.meaning.specs.States.{SourceState, opening}
use Rattle.meaning.proofs.Ends.{numbered}
use Rattle.meaning.proofs.Holding.{all_stand}
use Rattle.meaning.proofs.Keeping.{OptionWaits}
use Rattle.meaning.proofs.Led.{leads_more}
use Rattle.proof_exploration.specs.Exploring.{AreOwn, AreUnkilled, HasAborted, IsFromOutside, IsLike, IsStuck, IsUnkilled}
use Rattle.proof_exploration.specs.Exploring.{LeadsAlone}
use Rattle.proof_exploration.specs.Searching.{IsComplete, IsCovered, IsExpandedBy, IsKept}
use Rattle.proof_exploration.proofs.Alike.{like_back, like_stuck}
use Rattle.proof_exploration.proofs.Representing.{own_leads}
use Rattle.proof_exploration.proofs.Searching.{never_aborted, never_stuck}
use Rattle.proof_exploration.proofs.Waking.{never_aborted_waking, never_stuck_waking}
use Rattle.source_search.specs.Found.{AreFrom, AreNamed, HasFailed, IsCounted, IsFrom, IsNamed, LeadsNowhere, interleaves}
use Rattle.source_search.specs.Found.{is_any, killed_in, kills_of}
use Rattle.source_search.specs.Found.{one_kill}
use Rattle.source_search.specs.declared.outside.Outside.{Outside}
use Rattle.source_search.specs.Kept.{IsExpanded, IsExpandedSo, IsInterleaved, IsLonger, IsLookedAt, IsSeen, NoneIs}
use Rattle.source_search.specs.declared.search.Findings.{Findings as FindingsOf}
use Rattle.source_search.proofs.Keeping.{expanded_still, longer_none, longer_twice, none_kills, none_strays, none_whole, seen_still}
use Rattle.source_search.proofs.Killed.{killed_more, killed_opening}
use Rattle.source_search.proofs.Successors.{interleaved_like}

-- states that are alike have the same ends
like_failed : (may : Outside) (s r : SourceState) → IsLike s r → HasFailed may s → HasFailed may r
like_failed may s r like is =
    (is.0, (is.1.0, ap (λ (f : ℕ → Option Process). f is.0) (sym like.process) ∙ is.1.1, is.1.2))

-- where no kills are searched, each end is looked for
counts : (may : Outside) (cause : Cause) → interleaves may ≡ false → IsCounted may cause
counts may (Faulted fault) none = tt
counts may Killed none = let few = none_kills may none in omega (arith, few)

fails_too : (may : Outside) (s : SourceState) → interleaves may ≡ false → HasAborted s → HasFailed may s
fails_too may s none is = (is.0, (is.1, is.2, counts may is.1 none))

-- the kept states before this place are expanded, and none of them is an end that isn't noted
pub record IsSoFar (p : Program) (may : Outside) (first kept : List SourceState) (place : ℕ)
    (stuck aborted : Option ℕ) : Type 0 where
  pub longer : IsLonger first kept
  pub within : place ≤ length kept
  pub expanded : All (IsExpanded p may kept) (take place kept)
  pub never_stuck : NoneIs (IsStuck p) (take place kept) stuck
  pub never_aborted : NoneIs (HasFailed may) (take place kept) aborted

none_yet : {X : Type 0} (P : X → Type 0) (xs : List X) → All P (take 0 xs)
none_yet P xs k d less = absurd (omega (arith, less, length-take 0 xs))

pub at_first : (p : Program) (may : Outside) (first : List SourceState) → IsSoFar p may first first 0 None None
at_first p may first = record {
  longer = longer_none first;
  within = omega arith;
  expanded = none_yet (IsExpanded p may first) first;
  never_stuck = λ e. none_yet (λ s. IsStuck p s → ⊥) first;
  never_aborted = λ e. none_yet (λ s. HasFailed may s → ⊥) first;
}

module _ (p : Program) (may : Outside) (first kept kept' : List SourceState) (place : ℕ) (found found' : FindingsOf)
    (so_far : IsSoFar p may first kept place found.stuck found.aborted) (longer : IsLonger kept kept')
    (looked : IsLookedAt p may kept kept' place found found') where
  less : place < length kept
  less = slice_get_within kept place looked.state looked.here

  long : length kept' ≡ length kept + length longer.0
  long = ap length longer.1 ∙ length-append kept longer.0

  seen : take place kept' ≡ take place kept
  seen = ap (take place) longer.1 ∙ take-append-le place kept longer.0 so_far.within

  there : get_or kept' place looked.state ≡ looked.state
  there = ap (λ l. get_or l place looked.state) longer.1
      ∙ get_or_append_left kept longer.0 looked.state place less
      ∙ get_or_from_slice_get kept place looked.state looked.state looked.here

  one_more : (P : SourceState → Type 0) → All P (take place kept) → P looked.state → All P (take (place + 1) kept')
  one_more P all one = All-more P kept' place looked.state (omega (arith, less, long)) (subst (All P) (sym seen) all)
      (subst P (sym there) one)

  -- one state more was looked at and expanded
  pub goes_on : IsSoFar p may first kept' (place + 1) found'.stuck found'.aborted
  goes_on = record {
    longer = longer_twice first kept kept' so_far.longer longer;
    within = omega (arith, less, long);
    expanded = one_more (IsExpanded p may kept')
        (All-weaker (IsExpanded p may kept) (IsExpanded p may kept') (expanded_still kept kept' longer p may)
        (take place kept) so_far.expanded)
        looked.expanded;
    never_stuck = λ e. one_more (λ s. IsStuck p s → ⊥) (so_far.never_stuck (looked.stuck e).0) (looked.stuck e).1;
    never_aborted = λ e. one_more (λ s. HasFailed may s → ⊥) (so_far.never_aborted (looked.aborted e).0)
        (looked.aborted e).1;
  }

-- all were looked at
module _ (p : Program) (may : Outside) (first kept : List SourceState) (place : ℕ) (stuck aborted : Option ℕ)
    (so_far : IsSoFar p may first kept place stuck aborted) (end : length kept ≤ place) where
  pub all_expanded : All (IsExpanded p may kept) kept
  all_expanded = subst (All (IsExpanded p may kept)) (take_all place kept end) so_far.expanded

  pub none_stuck : NoneIs (IsStuck p) kept stuck
  none_stuck = subst (λ l. NoneIs (IsStuck p) l stuck) (take_all place kept end) so_far.never_stuck

  pub none_aborted : NoneIs (HasFailed may) kept aborted
  none_aborted = subst (λ l. NoneIs (HasFailed may) l aborted) (take_all place kept end) so_far.never_aborted

-- a process that does something, or to which something is done, was made
is_there : (p : Program) → WellFormed p → (done : List Action) (s : SourceState) (a : Action) (s' : SourceState)
    → Leads p (opening p) done s → IsStep p s a s' → IsSome (s.process a.process)
is_there p wf done s a s' run (inl x) = ap is_some x.stands
is_there p wf done s a s' run (inr (inl x)) =
    waits (s.process a.process) ((all_stand p wf done s run a.process).waits x.0 x.2.allows.0)
  where
    waits : (o : Option Process) → OptionWaits x.0 o → IsSome o
    waits None is = absurd is
    waits (Some b) is = refl
is_there p wf done s a s' run (inr (inr x)) = ap is_some x.3.stands

-- where nothing from outside is searched, no action of a run is from outside
not_outside : (may : Outside) (k : Kind) → is_any may ≡ false → IsNamed may k → one_kill k ≤ may.kills
    → IsFromOutside k → ⊥
not_outside may (Stray c) none named few outside =
    let differ : true ≡ false = sym named ∙ none_strays may none in absurd (cc)
not_outside may (Kill resumed last) none named few outside =
    let most = none_kills may (none_whole may none) in omega (arith, few, most)
not_outside may other none named few outside = outside

pub are_own : (may : Outside) (actions : List Action) → is_any may ≡ false → AreNamed may actions
    → kills_of actions ≤ may.kills → AreOwn actions
are_own may [] none named few = tt
are_own may (a ∷ actions) none named few = (
  not_outside may a.kind none named.0 (omega (arith, few)),
  are_own may actions none named.1 (omega (arith, few)),
)

-- where no kills are searched, none of these actions is a kill
unkilled : (k : Kind) → one_kill k ≤ 0 → IsUnkilled k
unkilled (Kill resumed last) few = absurd (omega (arith, few))
unkilled other few = tt

are_unkilled : (actions : List Action) → kills_of actions ≤ 0 → AreUnkilled actions
are_unkilled [] few = tt
are_unkilled (a ∷ actions) few = (unkilled a.kind (omega (arith, few)), are_unkilled actions (omega (arith, few)))

-- an action of a run is searched where it comes: each kill is of one process more
from_run : (may : Outside) (s : SourceState) (k : Kind) → IsNamed may k → killed_in s + one_kill k ≤ may.kills
    → IsFrom may s k
from_run may s (Stray c) named few = named
from_run may s (Kill resumed last) named few = omega (arith, few)
from_run may s other named few = tt

-- where no kills are searched, what turns lead to from each kept state is covered
turned : (p : Program) (may : Outside) (kept : List SourceState) → All (IsExpanded p may kept) kept
    → interleaves may ≡ false → (s : SourceState) → Contains kept s → IsExpandedBy p may.strays kept s
turned p may kept expanded turns s is =
    subst (λ (b : Bool). IsExpandedSo p may b kept s) turns (All-contains (IsExpanded p may kept) kept s expanded is)

-- and where nothing from outside is, what comes next
pub closed : (p : Program) (may : Outside) (kept : List SourceState) → All (IsExpanded p may kept) kept
    → is_any may ≡ false → (s : SourceState) → Contains kept s → IsExpandedBy p false kept s
closed p may kept expanded none s is =
    subst (λ (b : Bool). IsExpandedBy p b kept s) (none_strays may none)
    (turned p may kept expanded (none_whole may none) s is)

-- then each run leads to what is kept, where all actions are interleaved; else the search is complete
module _ (p : Program) (wf : WellFormed p) (may : Outside) (kept : List SourceState) where
  module _ (opens : IsKept kept (opening p)) (expanded : All (IsExpanded p may kept) kept) (any : interleaves may ≡ true)
    where
      goes_to_kept : (actions done : List Action) (s e : SourceState) → Leads p (opening p) done s → IsKept kept s
          → Leads p s actions e → AreNamed may actions → killed_in s + kills_of actions ≤ may.kills → IsKept kept e
      goes_to_kept [] done s e run is led named few = subst (IsKept kept) led is
      goes_to_kept (a ∷ actions) done s e run is led named few =
          let expands : IsInterleaved p may kept s =
          interleaved_like p may kept s is.0 (like_back is.0 s is.2)
          (subst (λ (b : Bool). IsExpandedSo p may b kept is.0) any
          (All-contains (IsExpanded p may kept) kept is.0 expanded is.1)) in
          let next : IsKept kept led.0 =
          expands a (is_there p wf done s a led.0 run led.1)
          (from_run may s a.kind named.0 (omega (arith, few))) led.0 led.1 in
          let more = killed_more p s a led.0 (numbered p s done run) led.1 in
          goes_to_kept actions (done ++ a ∷ []) led.0 e (leads_more p (opening p) s led.0 done a run led.1)
          next led.2 named.1 (omega (arith, few, more))

      all_kept : (actions : List Action) (s : SourceState) → Leads p (opening p) actions s → AreFrom may actions
          → IsKept kept s
      all_kept actions s led from =
          let none = killed_opening p in
          goes_to_kept actions [] (opening p) s refl opens led from.0 (omega (arith, from.1, none))

  pub complete : (n : ℕ) × IsCovered p kept n (opening p) → All (IsExpanded p may kept) kept → is_any may ≡ false
      → IsComplete p false kept
  complete opens expanded none = record {
    opens = opens;
    expanded = closed p may kept expanded none;
  }

  complete_by : (n : ℕ) × IsCovered p kept n (opening p) → All (IsExpanded p may kept) kept → interleaves may ≡ false
      → IsComplete p may.strays kept
  complete_by opens expanded turns = record {
    opens = opens;
    expanded = turned p may kept expanded turns;
  }

  module _ (expanded : All (IsExpanded p may kept) kept) where
    -- a run of the actions that are searched has no such end, where no run of turns has
    by_turns : (Is : SourceState → Type 0) → (strays : Bool) → may.strays ≡ strays → interleaves may ≡ false
        → (IsComplete p false kept → (actions : List Action) (s : SourceState) → LeadsAlone p (opening p) actions s
        → Is s → ⊥)
        → (IsComplete p true kept → (actions : List Action) (s : SourceState) → IsRun p actions s
        → AreUnkilled actions → Is s → ⊥)
        → (n : ℕ) × IsCovered p kept n (opening p) → LeadsNowhere p may Is
    by_turns Is true is turns own waking opens actions s run from bad =
        let few = none_kills may turns in
        waking (subst (λ b. IsComplete p b kept) is (complete_by opens expanded turns)) actions s run
        (are_unkilled actions (let most = from.1 in omega (arith, few, most))) bad
    by_turns Is false is turns own waking opens actions s run from bad =
        own (subst (λ b. IsComplete p b kept) is (complete_by opens expanded turns)) actions s
        (own_leads p (opening p) s actions run
        (are_own may actions (neither may.strays (nat_lt 0 may.kills) is turns) from.0 from.1)) bad
      where
        neither : (b c : Bool) → b ≡ false → c ≡ false → (b || c) ≡ false
        neither b c x y = ap (λ d. d || c) x ∙ y

    no_stuck : (b : Bool) → interleaves may ≡ b → IsSeen p b kept (opening p)
        → All (λ s. IsStuck p s → ⊥) kept → LeadsNowhere p may (IsStuck p)
    no_stuck true any opens none actions s run from bad =
        let is : IsKept kept s = all_kept opens expanded any actions s run from in
        All-contains (λ s. IsStuck p s → ⊥) kept is.0 none is.1 (like_stuck p s is.0 (like_back is.0 s is.2) bad)
    no_stuck false any opens none actions s run from bad =
        by_turns (IsStuck p) may.strays refl any (λ complete. never_stuck p kept wf complete tested)
        (λ complete. never_stuck_waking p kept wf complete tested) opens actions s run from bad
      where
        tested : (r : SourceState) → Contains kept r → IsStuck p r → ⊥
        tested r is = All-contains (λ s. IsStuck p s → ⊥) kept r none is

    no_aborted : (b : Bool) → interleaves may ≡ b → IsSeen p b kept (opening p)
        → All (λ s. HasFailed may s → ⊥) kept → LeadsNowhere p may (HasFailed may)
    no_aborted true any opens none actions s run from bad =
        let is : IsKept kept s = all_kept opens expanded any actions s run from in
        All-contains (λ s. HasFailed may s → ⊥) kept is.0 none is.1 (like_failed may s is.0 (like_back is.0 s is.2) bad)
    no_aborted false any opens none actions s run from bad =
        by_turns HasAborted may.strays refl any (λ complete. never_aborted p kept wf complete tested)
        (λ complete. never_aborted_waking p kept wf complete tested) opens actions s run from (bad.0, bad.1.0, bad.1.1)
      where
        tested : (r : SourceState) → Contains kept r → HasAborted r → ⊥
        tested r is aborted = All-contains (λ s. HasFailed may s → ⊥) kept r none is (fails_too may r any aborted)

-- no run leads to an end that the search hasn't found
module _ (p : Program) (wf : WellFormed p) (may : Outside) (first kept : List SourceState)
    (opens : IsSeen p (interleaves may) first (opening p)) (longer : IsLonger first kept)
    (expanded : All (IsExpanded p may kept) kept)
  where
    pub nowhere_stuck : (stuck : Option ℕ) → NoneIs (IsStuck p) kept stuck → stuck ≡ None
        → LeadsNowhere p may (IsStuck p)
    nowhere_stuck stuck none e =
        no_stuck p wf may kept expanded (interleaves may) refl (seen_still first kept longer p (interleaves may) (opening p) opens)
        (none e)

    pub nowhere_aborted : (aborted : Option ℕ) → NoneIs (HasFailed may) kept aborted → aborted ≡ None
        → LeadsNowhere p may (HasFailed may)
    nowhere_aborted aborted none e =
        no_aborted p wf may kept expanded (interleaves may) refl (seen_still first kept longer p (interleaves may) (opening p) opens)
        (none e)
