-- What the steps of an exit do, whoever sleeps.
use Rattle.std.proofs.Common.{◌≡◌, ◌≢◌, ◌<◌, ◌≤◌, ◌+◌, ◌∙◌, ℕ, Bool, true, false, List, [], ◌∷◌, Option, Some, None}
use Rattle.std.proofs.Common.{inl, inr, refl, sym, ap, subst, arith, length}
use Rattle.std.specs.Prelude.{◌⊎◌, if◌then◌else◌}
use Rattle.words.specs.Updates.{put}
use Rattle.words.specs.LockWord.{lock_word, owner_of, waiters_of}
use Rattle.words.specs.Process.{process_word}
use Rattle.words.specs.declared.mem.Addr.{Addr}
use Rattle.buckets.specs.Places.{with_place}
use Rattle.futexcalls.specs.FutexCalls.{Wakes}
use Rattle.robustexit.specs.declared.phase.ExitPhase.{ExitPhase}
use Rattle.robustexit.specs.declared.phase.ExitPhase.TheVariants.{Entry, Pending, ClearId, LastWake, Ended}
use Rattle.robustexit.specs.declared.rule.ExitRule.{ExitRule}
use Rattle.robustexit.specs.ExitRules.{wakes}
use Rattle.robustexit.specs.Phases.{next_entry}
use Rattle.robustexit.specs.RobustExit.{Shared, Abandons, EntryStep, IsEntry, IsIdle, PendingStep}
use Rattle.robustexit.specs.RobustExit as exit
use Rattle.image_states.specs.declared.exits.ExitPlan.{ExitPlan}
use Rattle.image_states.specs.Exits.{IsAddressIn, IsPlanIn, IsPlanned, IsPlanOf, WakesAt}

abbrev pub idle_plan : ExitPhase → ExitPlan
idle_plan next = record { marks = None; wakes = None; next = next }

abbrev pub abandon_plan : Addr → ℕ → ExitPhase → ExitPlan
abandon_plan lock word next = record {
  marks = Some (lock, lock_word 0 true (waiters_of word));
  wakes = if waiters_of word then Some lock else None;
  next = next;
}

idles : (before after : Shared) (woken : List ℕ) (next reached : ExitPhase) → IsIdle before woken after → reached ≡ next
    → IsPlanned (idle_plan next) before woken after reached
idles before after woken next reached idle is = record {
  next = is;
  words = ap (λ (s : Shared). s.word) idle.same;
  wakes = (idle.nobody, ap (λ (s : Shared). s.asleep) idle.same);
}

-- what lies in the memory of the words of a step that does nothing, and of one that abandons a lock
pub idle_in : (size : ℕ) (plan : ExitPlan) (next : ExitPhase) → plan ≡ idle_plan next → IsPlanIn size plan
idle_in size plan next e = subst (IsPlanIn size) (sym e) (record { marks = tt; wakes = tt })

wakes_in : (b : Bool) (size : ℕ) (lock : Addr) → lock.0 < size → IsAddressIn size (if b then Some lock else None)
wakes_in true size lock less = less
wakes_in false size lock less = tt

pub abandon_in : (size : ℕ) (plan : ExitPlan) (lock : Addr) (word : ℕ) (next : ExitPhase) → lock.0 < size
    → plan ≡ abandon_plan lock word next → IsPlanIn size plan
abandon_in size plan lock word next less e =
    subst (IsPlanIn size) (sym e) (record { marks = less; wakes = wakes_in (waiters_of word) size lock less })

-- an entry's lock lies in the memory
pub lock_in : (size entry : ℕ) (lock : Addr) → lock.0 ≡ entry + 1 → IsEntry size entry → lock.0 < size
lock_in size entry lock e is = let less : entry + 1 < size = is.1 in omega (arith, e, less)

none_woken : (xs : List ℕ) → length xs ≤ 0 → xs ≡ []
none_woken [] few = refl
none_woken (x ∷ xs) few = absurd (omega (arith, few))

wakes_so : (b : Bool) (asleep after : ℕ → Option ℕ) (lock : Addr) (woken : List ℕ)
    → Wakes asleep lock.0 (if b then 1 else 0) woken after → WakesAt (if b then Some lock else None) asleep woken after
wakes_so true asleep after lock woken wakes = wakes
wakes_so false asleep after lock woken wakes =
    let none : woken ≡ [] = none_woken woken (wakes.choice.few) in
    (none, wakes.awake ∙ ap (λ list. with_place asleep list None) none)

abandoned : (t : ℕ) (before after : Shared) (lock : Addr) (word : ℕ) (woken : List ℕ) (next reached : ExitPhase)
    → before.word lock.0 ≡ word → Abandons t lock.0 before woken after → reached ≡ next
    → IsPlanned (abandon_plan lock word next) before woken after reached
abandoned t before after lock word woken next reached at ab is = record {
  next = is;
  words = ab.marks ∙ ap (λ w. put before.word lock.0 (lock_word 0 true (waiters_of w))) at;
  wakes = wakes_so (waiters_of word) before.asleep after.asleep lock woken
      (subst (λ w. Wakes before.asleep lock.0 (if waiters_of w then 1 else 0) woken after.asleep) at ab.wakes);
}

-- no entry
pub no_entry : (rule : ExitRule) (size t seen : ℕ) (e : Addr) (word : ℕ → ℕ) → (IsEntry size e.0 → ⊥)
    → IsPlanOf rule size t (Entry e seen) word (idle_plan Pending)
no_entry rule size t seen e word not asleep woken after next (inl (is, step, goes)) = absurd (not is)
no_entry rule size t seen e word not asleep woken after next (inr (never, idle, goes)) =
    idles (record { word = word; asleep = asleep }) after woken Pending next idle goes

-- an entry that is the pending one, or not the thread's
pub idle_entry : (rule : ExitRule) (size t seen : ℕ) (e : Addr) (word : ℕ → ℕ) (next : ExitPhase) → IsEntry size e.0
    → (word (process_word t 1) ≡ e.0) ⊎ (owner_of (word (e.0 + 1)) ≢ t) → next ≡ next_entry (word e.0) (seen + 1)
    → IsPlanOf rule size t (Entry e seen) word (idle_plan next)
idle_entry rule size t seen e word next is why goes asleep woken after reached (inr (never, idle, to)) =
    absurd (never is)
idle_entry rule size t seen e word next is why goes asleep woken after reached (inl (it, step, to)) = by step why
  where
    before : Shared
    before = record { word = word; asleep = asleep }

    by : EntryStep size t e.0 before woken after → (word (process_word t 1) ≡ e.0) ⊎ (owner_of (word (e.0 + 1)) ≢ t)
        → IsPlanned (idle_plan next) before woken after reached
    by (exit.EntryStep.IsPending h idle) w = idles before after woken next reached idle (to ∙ sym goes)
    by (exit.EntryStep.IsForeign h idle) w = idles before after woken next reached idle (to ∙ sym goes)
    by (exit.EntryStep.IsOwned ne ab) (inl h) = absurd (ne h)
    by (exit.EntryStep.IsOwned ne ab) (inr h) = absurd (h ab.owned)

-- an entry of the thread's
pub owned_entry : (rule : ExitRule) (size t seen : ℕ) (e lock : Addr) (word : ℕ → ℕ) (w : ℕ) (next : ExitPhase)
    → IsEntry size e.0 → word (process_word t 1) ≢ e.0 → owner_of (word (e.0 + 1)) ≡ t → lock.0 ≡ e.0 + 1
    → word (e.0 + 1) ≡ w
    → next ≡ next_entry (word e.0) (seen + 1) → IsPlanOf rule size t (Entry e seen) word (abandon_plan lock w next)
owned_entry rule size t seen e lock word w next is other owned at found goes asleep woken after reached
    (inr (never, idle, to)) =
    absurd (never is)
owned_entry rule size t seen e lock word w next is other owned at found goes asleep woken after reached
    (inl (it, step, to)) =
    by step
  where
    before : Shared
    before = record { word = word; asleep = asleep }

    by : EntryStep size t e.0 before woken after → IsPlanned (abandon_plan lock w next) before woken after reached
    by (exit.EntryStep.IsPending h idle) = absurd (other h)
    by (exit.EntryStep.IsForeign h idle) = absurd (h owned)
    by (exit.EntryStep.IsOwned ne ab) = abandoned t before after lock w woken next reached (ap word at ∙ found)
        (subst (λ l. Abandons t l before woken after) (sym at) ab) (to ∙ sym goes)

-- each step at this pending entry is so
abbrev IsPendingPlan : ExitRule → (size t e : ℕ) → (ℕ → ℕ) → ExitPlan → Type 0
IsPendingPlan rule size t e word plan = (asleep : ℕ → Option ℕ) (woken : List ℕ) (after : Shared) (reached : ExitPhase)
    → reached ≡ ClearId → PendingStep rule size t e (record { word = word; asleep = asleep }) woken after
    → IsPlanned plan (record { word = word; asleep = asleep }) woken after reached

at_pending : {rule : ExitRule} (size t e : ℕ) (word : ℕ → ℕ) (plan : ExitPlan) → word (process_word t 1) ≡ e
    → IsPendingPlan rule size t e word plan → IsPlanOf rule size t Pending word plan
at_pending {rule} size t e word plan is each asleep woken after reached (step, to) =
    each asleep woken after reached to
    (subst (λ f. PendingStep rule size t f (record { word = word; asleep = asleep }) woken after) is step)

-- no pending entry
pub no_pending : {rule : ExitRule} (size t e : ℕ) (word : ℕ → ℕ) → word (process_word t 1) ≡ e → (IsEntry size e → ⊥)
    → IsPlanOf rule size t Pending word (idle_plan ClearId)
no_pending {rule} size t e word is not = at_pending size t e word (idle_plan ClearId) is each
  where
    each : IsPendingPlan rule size t e word (idle_plan ClearId)
    each asleep woken after reached to (exit.PendingStep.NoEntry never idle) =
        idles (record { word = word; asleep = asleep }) after woken ClearId reached idle to
    each asleep woken after reached to (exit.PendingStep.IsForeign it h so w) = absurd (not it)
    each asleep woken after reached to (exit.PendingStep.IsPassed it h so idle) = absurd (not it)
    each asleep woken after reached to (exit.PendingStep.IsOwned it ab) = absurd (not it)

-- one of the thread's
pub owned_pending : {rule : ExitRule} (size t e : ℕ) (lock : Addr) (word : ℕ → ℕ) (w : ℕ) → word (process_word t 1) ≡ e
    → IsEntry size e → lock.0 ≡ e + 1 → word (e + 1) ≡ w → owner_of w ≡ t
    → IsPlanOf rule size t Pending word (abandon_plan lock w ClearId)
owned_pending {rule} size t e lock word w is it at found owned =
    at_pending size t e word (abandon_plan lock w ClearId) is each
  where
    owner : owner_of (word (e + 1)) ≡ owner_of w
    owner = ap owner_of found

    each : IsPendingPlan rule size t e word (abandon_plan lock w ClearId)
    each asleep woken after reached to (exit.PendingStep.NoEntry never idle) = absurd (never it)
    each asleep woken after reached to (exit.PendingStep.IsForeign so h rouses w') = absurd (h (owner ∙ owned))
    each asleep woken after reached to (exit.PendingStep.IsPassed so h passes idle) = absurd (h (owner ∙ owned))
    each asleep woken after reached to (exit.PendingStep.IsOwned so ab) =
        let before : Shared = record { word = word; asleep = asleep } in
        abandoned t before after lock w woken ClearId reached (ap word at ∙ found)
        (subst (λ l. Abandons t l before woken after) (sym at) ab) to

-- one of another's, or of nobody's, at which the rule wakes
pub foreign_pending : {rule : ExitRule} (size t e : ℕ) (lock : Addr) (word : ℕ → ℕ) (w : ℕ)
    → word (process_word t 1) ≡ e → IsEntry size e → lock.0 ≡ e + 1 → word (e + 1) ≡ w → owner_of w ≢ t
    → wakes rule w ≡ true
    → IsPlanOf rule size t Pending word (record { marks = None; wakes = Some lock; next = ClearId })
foreign_pending {rule} size t e lock word w is it at found other rouses =
    at_pending size t e word (record { marks = None; wakes = Some lock; next = ClearId }) is each
  where
    each : IsPendingPlan rule size t e word (record { marks = None; wakes = Some lock; next = ClearId })
    each asleep woken after reached to (exit.PendingStep.NoEntry never idle) = absurd (never it)
    each asleep woken after reached to (exit.PendingStep.IsForeign so h rouses' w') = record {
      next = to;
      words = w'.same;
      wakes = subst (λ l. Wakes asleep l 1 woken after.asleep) (sym at) w'.wakes;
    }
    each asleep woken after reached to (exit.PendingStep.IsPassed so h passes idle) =
        absurd (let differ : false ≡ true = sym passes ∙ ap (wakes rule) found ∙ rouses in cc)
    each asleep woken after reached to (exit.PendingStep.IsOwned so ab) =
        absurd (other (sym (ap owner_of found) ∙ ab.owned))

-- and at which it wakes nobody
pub passed_pending : {rule : ExitRule} (size t e : ℕ) (word : ℕ → ℕ) (w : ℕ) → word (process_word t 1) ≡ e
    → IsEntry size e → word (e + 1) ≡ w → owner_of w ≢ t → wakes rule w ≡ false
    → IsPlanOf rule size t Pending word (idle_plan ClearId)
passed_pending {rule} size t e word w is it found other passes = at_pending size t e word (idle_plan ClearId) is each
  where
    each : IsPendingPlan rule size t e word (idle_plan ClearId)
    each asleep woken after reached to (exit.PendingStep.NoEntry never idle) = absurd (never it)
    each asleep woken after reached to (exit.PendingStep.IsForeign so h rouses w') =
        absurd (let differ : true ≡ false = sym rouses ∙ ap (wakes rule) found ∙ passes in cc)
    each asleep woken after reached to (exit.PendingStep.IsPassed so h passes' idle) =
        idles (record { word = word; asleep = asleep }) after woken ClearId reached idle to
    each asleep woken after reached to (exit.PendingStep.IsOwned so ab) =
        absurd (other (sym (ap owner_of found) ∙ ab.owned))

-- the id word
pub id_cleared : (rule : ExitRule) (size t : ℕ) (a : Addr) (word : ℕ → ℕ) → a.0 ≡ process_word t 2
    → IsPlanOf rule size t ClearId word (record { marks = Some (a, 0); wakes = None; next = LastWake })
id_cleared rule size t a word at asleep woken after reached (nobody, is, to) = record {
  next = to;
  words = ap (λ (s : Shared). s.word) is ∙ ap (λ k. put word k 0) (sym at);
  wakes = (nobody, ap (λ (s : Shared). s.asleep) is);
}

pub last_woken : (rule : ExitRule) (size t : ℕ) (a : Addr) (word : ℕ → ℕ) → a.0 ≡ process_word t 2
    → IsPlanOf rule size t LastWake word (record { marks = None; wakes = Some a; next = Ended })
last_woken rule size t a word at asleep woken after reached (w, to) = record {
  next = to;
  words = w.same;
  wakes = subst (λ l. Wakes asleep l 1 woken after.asleep) (sym at) w.wakes;
}

pub none_left : (rule : ExitRule) (size t : ℕ) (word : ℕ → ℕ) → IsPlanOf rule size t Ended word (idle_plan Ended)
none_left rule size t word asleep woken after reached step = absurd step
