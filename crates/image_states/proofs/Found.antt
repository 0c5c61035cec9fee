-- Ends that are looked for, in packed states.
use Rattle.std.proofs.Common.{◌≡◌, ◌≢◌, ◌<◌, ◌≤◌, ◌∙◌, ℕ, zero, suc, Bool, true, false, not, List, Some, None}
use Rattle.std.proofs.Common.{inl, inr, refl, sym, ap, subst, arith, length, ◌&&◌}
use Rattle.std.specs.Prelude.{slice_index, MatchBool}
use Rattle.std.proofs.lemmas.Bool.{cases_lt}
use Rattle.std.proofs.lemmas.Option.{slice_get_past, same_Some}
use Rattle.words.specs.declared.outcome.Cause.TheVariants.{Faulted}
use Rattle.words.specs.declared.outcome.Fault.{Fault}
use Rattle.isa.specs.Programs.{Program}
use Rattle.robustexit.specs.declared.phase.ExitPhase.{ExitPhase}
use Rattle.robustexit.specs.declared.phase.ExitPhase.TheVariants.{Entry, Pending, ClearId, LastWake, Ended}
use Rattle.locals.specs.declared.request.Request.{Request as Told}
use Rattle.locals.specs.declared.request.Request.TheVariants as told
use Rattle.locals.specs.declared.request.NextStep.TheVariants as next
use Rattle.locals.specs.Threads.{Thread, Runs, Dies, Exits, is_dying}
use Rattle.locals.specs.Looks.{Look, Goes, AskFork, Asks, Leaves, Breaks, Rests, look}
use Rattle.locals.specs.Requests.{next_step_of}
use Rattle.machine.specs.AbstractServing.{IsUnserved}
use Rattle.machine.specs.RequestMeanings.{asked_of}
use Rattle.machine.specs.Runs.{has_ended, CanStep, IsBroken, NextIsBroken}
use Rattle.machine.specs.States.{State}
use Rattle.machine.proofs.Steps.{forks_when, local_goes}
use Rattle.proof_image_search.specs.Searching.{IsStuck}
use Rattle.image_states.specs.declared.packed.Packed.{Packed as PackedOf}
use Rattle.image_states.specs.declared.parts.Parts.{Parts as PartsOf}
use Rattle.image_states.specs.Ends.{IsFailing, IsFailingAt, IsLive}
use Rattle.image_states.specs.Packed.{asleep_at, local_in, place_of, unpacked}
use Rattle.image_states.proofs.Forked.{is_fork, IsFork}
use Rattle.image_states.proofs.Served.{asks}
use Rattle.image_states.proofs.Turned.{broken_told, ended_told, exit_told}

-- a thread that was made and has not ended
ended_is : (z : Thread) → z ≡ Exits Ended → has_ended (Some z) ≡ true
ended_is z e = ap (λ y. has_ended (Some y)) e

goes_on : (z : Thread) → z ≢ Exits Ended → has_ended (Some z) ≡ false
goes_on (Runs place operands locals callers) ne = refl
goes_on (Dies cause) ne = refl
goes_on (Exits (Entry e seen)) ne = refl
goes_on (Exits Pending) ne = refl
goes_on (Exits ClearId) ne = refl
goes_on (Exits LastWake) ne = refl
goes_on (Exits Ended) ne = absurd (ne refl)

pub live_absent : (s : State) (t : ℕ) → s.thread t ≡ None → IsLive s t → ⊥
live_absent s t none live = let differ : None ≡ Some live.thread = sym none ∙ live.stands in cc

pub live_so : (s : State) (t : ℕ) (z : Thread) (ended : Bool) → s.thread t ≡ Some z
    → MatchBool ended (z ≡ Exits Ended) (z ≢ Exits Ended)
    → MatchBool (not ended) (IsLive s t) (IsLive s t → ⊥)
live_so s t z true stands is = λ live.
    let differ : true ≡ false = sym (ended_is z is) ∙ ap (λ y. has_ended (Some y)) (same_Some z live.thread
    (sym stands ∙ live.stands)) ∙ live.goes_on in cc
live_so s t z false stands is = record { thread = z; stands = stands; goes_on = goes_on z is }

-- and is awake
pub can_step_so : (s : State) (t : ℕ) (live awake : Bool) → MatchBool live (IsLive s t) (IsLive s t → ⊥)
    → MatchBool awake (s.asleep t ≡ None) (s.asleep t ≡ None → ⊥)
    → MatchBool (live && awake) (CanStep s t) (CanStep s t → ⊥)
can_step_so s t false awake is at = λ can.
    is (record { thread = can.thread; stands = can.stands; goes_on = can.goes_on })
can_step_so s t true true is at =
    record { thread = is.thread; stands = is.stands; awake = at; goes_on = is.goes_on }
can_step_so s t true false is at = λ can. at can.awake

-- who sleeps is seen of a number
pub awake_so : (places : List ℕ) (k place : ℕ) (b : Bool) → place ≡ slice_index places k
    → MatchBool b (place ≡ 0) (place ≢ 0)
    → MatchBool b (asleep_at places (suc k) ≡ None) (asleep_at places (suc k) ≡ None → ⊥)
awake_so places k place true is at = ap place_of (sym is ∙ at)
awake_so places k place false is at = λ e. none (slice_index places k) (λ z. at (is ∙ z)) e
  where
    none : (n : ℕ) → n ≢ 0 → place_of n ≡ None → ⊥
    none zero ne e = ne refl
    none (suc n) ne e = cc

-- a state is stuck where none can step, and some thread lives
pub stuck_so : (s : State) (can live : Bool)
    → MatchBool can ((t : ℕ) × CanStep s t) ((t : ℕ) → CanStep s t → ⊥)
    → MatchBool live ((t : ℕ) × IsLive s t) ((t : ℕ) → IsLive s t → ⊥)
    → MatchBool (not can && live) (IsStuck s) (IsStuck s → ⊥)
stuck_so s true live can some = λ stuck. stuck.rests can.0 can.1
stuck_so s false true can some = record {
  rests = can;
  number = some.0;
  thread = (some.1).thread;
  stands = (some.1).stands;
  goes_on = λ e.
      let differ : true ≡ false = sym (ended_is (some.1).thread e) ∙ (some.1).goes_on in cc;
}
stuck_so s false false can some = λ stuck.
    some stuck.number (record { thread = stuck.thread; stands = stuck.stands; goes_on = goes_on stuck.thread stuck.goes_on })

-- thread 0 and those behind the last aren't there
pub absent_past : (p : Program) (parts : PartsOf) (x : PackedOf) (n : ℕ) → length x.parts.items ≤ n
    → (unpacked p parts x).thread (suc n) ≡ None
absent_past p parts x n past = ap (local_in parts.locals.items) (slice_get_past x.parts.items n past)

-- whoever is so is one of those that were made
pub none_is : (p : Program) (parts : PartsOf) (x : PackedOf) (Is : ℕ → Type 0)
    → ((t : ℕ) → (unpacked p parts x).thread t ≡ None → Is t → ⊥)
    → (n : ℕ) → length x.parts.items ≤ n → ((j : ℕ) → j < n → Is (suc j) → ⊥) → (t : ℕ) → Is t → ⊥
none_is p parts x Is absent n past none zero is = absent zero refl is
none_is p parts x Is absent n past none (suc j) is = elim (cases_lt j n) [
  | inl less ↦ none j less is
  | inr more ↦ absent (suc j) (absent_past p parts x j (omega (arith, past, more))) is
]

-- a thread is dying of a fault
pub failing_absent : (s : State) (t : ℕ) → s.thread t ≡ None → IsFailingAt s t → ⊥
failing_absent s t none (fault, stands) = let differ : None ≡ Some (Dies (Faulted fault)) = sym none ∙ stands in cc

pub failing_so : (s : State) (t : ℕ) (z : Thread) (b : Bool) → s.thread t ≡ Some z
    → MatchBool b (IsFailing z) (IsFailing z → ⊥) → MatchBool b (IsFailingAt s t) (IsFailingAt s t → ⊥)
failing_so s t z true stands (fault, is) = (fault, stands ∙ ap (λ y. Some y) is)
failing_so s t z false stands not_so =
    λ (fault, is). not_so (fault, same_Some z (Dies (Faulted fault)) (sym stands ∙ is))

-- what the code tells of a thread that is dying
pub dying_told : (p : Program) (t : ℕ) (z : Thread) (fault : Fault) → is_dying z ≡ true
    → next_step_of (look p t z) ≡ next.Shared (told.Fault (Faulted fault)) → IsFailing z
dying_told p t (Runs place operands locals callers) fault dying e = absurd cc
dying_told p t (Dies cause) fault dying e = (fault, let same : cause ≡ Faulted fault = cc in ap (λ c. Dies c) same)
dying_told p t (Exits (Entry a seen)) fault dying e = absurd cc
dying_told p t (Exits Pending) fault dying e = absurd cc
dying_told p t (Exits ClearId) fault dying e = absurd cc
dying_told p t (Exits LastWake) fault dying e = absurd cc
dying_told p t (Exits Ended) fault dying e = absurd cc

-- a step that may not be
module _ (p : Program) (s : State) (t : ℕ) (here : Thread) where
  pub local_whole : next_step_of (look p t here) ≡ next.Local → IsBroken s (look p t here) → ⊥
  local_whole told = by (look p t here) told
    where
      by : (l : Look) → next_step_of l ≡ next.Local → IsBroken s l → ⊥
      by (Goes z) e broken = broken
      by (Asks r go) e broken = local_goes (Asks r go) e refl
      by (Leaves phase) e broken = broken
      by Breaks e broken = cc
      by Rests e broken = broken

  pub exit_whole : (phase : ExitPhase) → next_step_of (look p t here) ≡ next.Exit phase → IsBroken s (look p t here) → ⊥
  exit_whole phase told broken = subst (IsBroken s) (exit_told (look p t here) phase told) broken

  pub ended_whole : next_step_of (look p t here) ≡ next.Ended → IsBroken s (look p t here) → ⊥
  ended_whole told broken = subst (IsBroken s) (ended_told (look p t here) told) broken

  pub broken_is : next_step_of (look p t here) ≡ next.Broken → IsBroken s (look p t here)
  broken_is told = subst (IsBroken s) (sym (broken_told (look p t here) told)) tt

  pub shared_so : (q : Told) (lies : Bool) → next_step_of (look p t here) ≡ next.Shared q
      → MatchBool lies (IsUnserved (asked_of q) s → ⊥) (IsUnserved (asked_of q) s)
      → MatchBool (not lies) (IsBroken s (look p t here)) (IsBroken s (look p t here) → ⊥)
  shared_so q true told is = λ broken. is (subst (IsBroken s) (asks (look p t here) q told).1 broken)
  shared_so q false told is = subst (IsBroken s) (sym (asks (look p t here) q told).1) is

  pub fork_so : (e n : ℕ) (room less : Bool) → next_step_of (look p t here) ≡ next.Fork e n room
      → MatchBool less (s.made < s.most) (s.most ≤ s.made)
      → MatchBool (less && not room) (IsBroken s (look p t here)) (IsBroken s (look p t here) → ⊥)
  fork_so e n room less told is = by less room is fork.asks
    where
      fork : IsFork (look p t here) room
      fork = is_fork (look p t here) room (forks_when (look p t here) e n room told)

      by : (b r : Bool) → MatchBool b (s.made < s.most) (s.most ≤ s.made)
          → look p t here ≡ Asks (AskFork fork.entry fork.arguments r) fork.go
          → MatchBool (b && not r) (IsBroken s (look p t here)) (IsBroken s (look p t here) → ⊥)
      by true true few at = λ broken. (subst (IsBroken s) at broken).1 refl
      by true false few at = subst (IsBroken s) (sym at) (few, λ same. cc)
      by false r many at = λ broken.
          let less : s.made < s.most = (subst (IsBroken s) at broken).0 in
          let more : s.most ≤ s.made = many in omega (arith, less, more)

pub can_absent : (s : State) (t : ℕ) → s.thread t ≡ None → CanStep s t → ⊥
can_absent s t none can = let differ : None ≡ Some can.thread = sym none ∙ can.stands in cc

pub can_asleep : (p : Program) (parts : PartsOf) (x : PackedOf) (k place : ℕ) → place ≡ slice_index x.places.items k
    → place ≢ 0 → CanStep (unpacked p parts x) (suc k) → ⊥
can_asleep p parts x k place is ne can = none (slice_index x.places.items k) (λ z. ne (is ∙ z)) can.awake
  where
    none : (n : ℕ) → n ≢ 0 → place_of n ≡ None → ⊥
    none zero other e = other refl
    none (suc n) other e = cc

pub can_step_awake : (s : State) (t : ℕ) (live : Bool) → MatchBool live (IsLive s t) (IsLive s t → ⊥) → s.asleep t ≡ None
    → MatchBool live (CanStep s t) (CanStep s t → ⊥)
can_step_awake s t true is at =
    record { thread = is.thread; stands = is.stands; awake = at; goes_on = is.goes_on }
can_step_awake s t false is at = λ can.
    is (record { thread = can.thread; stands = can.stands; goes_on = can.goes_on })

pub awake_zero : (p : Program) (parts : PartsOf) (x : PackedOf) (k place : ℕ) → place ≡ slice_index x.places.items k
    → place ≡ 0 → (unpacked p parts x).asleep (suc k) ≡ None
awake_zero p parts x k place is zero_is = ap place_of (sym is ∙ zero_is)

-- the next step of a thread
pub broken_at : (p : Program) (s : State) (t : ℕ) (z : Thread) (b : Bool) → s.thread t ≡ Some z → s.asleep t ≡ None
    → MatchBool b (IsBroken s (look p t z)) (IsBroken s (look p t z) → ⊥)
    → MatchBool b (NextIsBroken p s t) (NextIsBroken p s t → ⊥)
broken_at p s t z true stands awake is = record { thread = z; stands = stands; awake = awake; breaks = is }
broken_at p s t z false stands awake is = λ next.
    is (subst (λ y. IsBroken s (look p t y)) (same_Some next.thread z (sym next.stands ∙ stands)) next.breaks)

pub broken_absent : (p : Program) (s : State) (t : ℕ) → s.thread t ≡ None → NextIsBroken p s t → ⊥
broken_absent p s t none next = let differ : None ≡ Some next.thread = sym none ∙ next.stands in cc

pub broken_asleep : (p : Program) (parts : PartsOf) (x : PackedOf) (k place : ℕ) → place ≡ slice_index x.places.items k
    → place ≢ 0 → NextIsBroken p (unpacked p parts x) (suc k) → ⊥
broken_asleep p parts x k place is ne next = none (slice_index x.places.items k) (λ z. ne (is ∙ z)) next.awake
  where
    none : (n : ℕ) → n ≢ 0 → place_of n ≡ None → ⊥
    none zero other e = other refl
    none (suc n) other e = cc
