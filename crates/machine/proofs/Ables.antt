-- Whom a step leaves as it was: whether a thread can move is changed by a step no further than for the thread that takes
-- it, those that it wakes, and the one that it makes. So the bits are right behind it once theirs are.
use Rattle.std.proofs.Common.{◌≡◌, ◌≢◌, ℕ, zero, suc, ◌<◌, ◌≤◌, ◌==◌, ◌||◌, Bool, true, false, not, is_some, Option}
use Rattle.std.proofs.Common.{Some, None, Ok, List, [], ◌∷◌, length, get_or, max, refl, ap, sym, ◌∙◌, subst, arith, ◌⊎◌, inl}
use Rattle.std.proofs.Common.{inr, ◌-◌, slice_set, replicate, length-set, Result, Err}
use Rattle.std.specs.Prelude.{if◌then◌else◌, OnOk, OnErr}
use Rattle.std.specs.List.{All}
use Rattle.std.proofs.lemmas.Bool.{cases_eq, cases_lt, cases_Bool, ne_eqb, both_ways}
use Rattle.std.proofs.lemmas.Option.{slice_get_past}
use Rattle.words.specs.Limits.{most_threads}
use Rattle.isa.specs.Programs.{Program}
use Rattle.buckets.specs.Places.{names, with_place}
use Rattle.buckets.specs.Sleepers.{Sleepers, place_of, bucket_count}
use Rattle.buckets.proofs.Outcomes.{names-get_or}
use Rattle.futexcalls.specs.FutexCalls.{Wakes, Moves as Shifts}
use Rattle.futexcalls.specs.declared.pieces.FutexCall.{FutexCall}
use Rattle.futexcalls.specs.declared.pieces.FutexCall.TheVariants.{Wait, Wake, Requeue}
use Rattle.futexcalls.specs.declared.pieces.FutexPhase.{FutexPhase}
use Rattle.futexcalls.specs.declared.pieces.FutexPhase.TheVariants.{First, Second, Compare, Act}
use Rattle.futexcalls.specs.Answers.{word_of}
use Rattle.futexcalls.specs.Progress.{PieceAnswer, Again, Acted, PieceProgress, Next, Done}
use Rattle.futexcalls.specs.Pieces.{after_lock, Acts}
use Rattle.futexcalls.specs.PieceResults.{PieceSo, TakesSo, ComparesSo}
use Rattle.robustexit.specs.RobustExit.{Shared, ExitStep, EntryStep, PendingStep, IsIdle}
use Rattle.robustexit.specs.RobustExit.{IsPending, IsForeign, IsPassed, IsOwned, NoEntry, put}
use Rattle.robustexit.specs.declared.phase.ExitPhase.{ExitPhase}
use Rattle.robustexit.specs.declared.phase.ExitPhase.TheVariants.{Entry, Pending, ClearId, LastWake, Ended}
use Rattle.locals.specs.Threads.{Thread, Exits}
use Rattle.locals.specs.Looks.{Request, AskLoad, AskStore, AskSwap, AskCompareSwap, AskOr, AskAdd, AskFork, AskPrint}
use Rattle.locals.specs.Looks.{AskWait, AskWake, AskRequeue, AskReturn, AskReturnValue, AskFault, Look, Goes, Asks}
use Rattle.locals.specs.Looks.{Leaves, Breaks, Rests, look}
use Rattle.robustexit.specs.ExitRules.{exit_of}
use Rattle.machine.specs.declared.event.Event.{Event}
use Rattle.machine.specs.declared.thread_set.ThreadSet.{ThreadSet}
use Rattle.machine.specs.ThreadSets.{set_of, has, has_bit, IsMember, IsLeastFrom}
use Rattle.machine.specs.declared.call_step.CallProgress.TheVariants as common
use Rattle.machine.specs.declared.event.StepFault.{StepFault}
use Rattle.machine.specs.States.{State, Common, ConcreteState, thread_at, thread_of, state_of, with_thread, with_word}
use Rattle.machine.specs.States.{opening_concrete}
use Rattle.machine.specs.ConcreteOutside.{drop_sleeper}
use Rattle.machine.specs.AbstractServing.{Serves}
use Rattle.machine.specs.Runs.{Moves, has_ended}
use Rattle.machine.specs.ConcreteSteps.{can_move, thread_can_move, step_of}
use Rattle.machine.specs.ConcretePieces.{woken_in}
use Rattle.machine.specs.Views.{View, IsWellFormed, IsBitSo, KeepsBits, MendsBits, ShowsAble, concrete}
use Rattle.machine.proofs.CallPieces.{Told, next_told, blocked_told, done_told, blocked_same}
use Rattle.machine.proofs.Placing.{put-there, get_set_other}
use Rattle.machine.proofs.Sets.{sets_so, none_set}
use Rattle.machine.proofs.Sleeping.{placed, unplaced}
use Rattle.machine.proofs.Stepping.{steps_so}
use Rattle.robustexit.specs.declared.rule.ExitRule.{ExitRule}

-- a thread that wasn't made can't move
pub none_past : (k : ConcreteState) (t : ℕ) → length k.threads < t → can_move k t ≡ false
none_past k zero past = refl
none_past k (suc n) past =
    ap (thread_can_move (k.common.asleep (suc n))) (slice_get_past k.threads n (omega (arith, past)))

-- who sleeps behind a step of thread t that woke these: others as before, and who was woken slept
pub record Rouses (t : ℕ) (before after : ℕ → Option ℕ) (woken : List ℕ) : Type 0 where
  pub alike : (u : ℕ) → u ≢ t → names woken u ≡ false → is_some (after u) ≡ is_some (before u)
  pub slept : (u : ℕ) → names woken u ≡ true → (a : ℕ) × (before u ≡ Some a)

nobody : (woken : List ℕ) (u : ℕ) → woken ≡ [] → names woken u ≡ true → ⊥
nobody woken u none y = let n : names [] u ≡ true = ap (λ xs. names xs u) (sym none) ∙ y in cc

still : (t : ℕ) (before after : ℕ → Option ℕ) (woken : List ℕ) → woken ≡ [] → after ≡ before → Rouses t before after woken
still t before after woken none same = record {
  alike = λ u ne out. ap (λ f. is_some (f u)) same;
  slept = λ u y. absurd (nobody woken u none y);
}

joins : (t a : ℕ) (before after : ℕ → Option ℕ) (woken : List ℕ) → woken ≡ []
    → after ≡ with_place before (t ∷ []) (Some a) → Rouses t before after woken
joins t a before after woken none joined = record {
  alike = λ u ne out. ap (λ f. is_some (f u)) joined
      ∙ ap is_some (unplaced before (t ∷ []) (Some a) u (ap (λ b. b || false) (ne_eqb u t ne)));
  slept = λ u y. absurd (nobody woken u none y);
}

wakes : (t a n : ℕ) (before after : ℕ → Option ℕ) (woken : List ℕ) → Wakes before a n woken after
    → Rouses t before after woken
wakes t a n before after woken w = record {
  alike = λ u ne out. ap (λ f. is_some (f u)) w.awake ∙ ap is_some (unplaced before woken None u out);
  slept = λ u y. (a, w.choice.slept u y);
}

-- who is moved sleeps on
shifts : (a b m : ℕ) (before after : ℕ → Option ℕ) (moved : List ℕ) (u : ℕ) → Shifts before a b m moved after
    → is_some (after u) ≡ is_some (before u)
shifts a b m before after moved u h = ap (λ f. is_some (f u)) h.goes ∙ by_test (cases_Bool (names moved u))
  where
    slept : (names moved u ≡ true) → is_some (before u) ≡ true
    slept y = elim (cases_eq a b) [
      | inl e ↦ absurd (nobody moved u (h.none e) y)
      | inr ne ↦ ap is_some ((h.choice ne).slept u y)
    ]

    by_test : ((names moved u ≡ true) ⊎ (names moved u ≡ false))
        → is_some (with_place before moved (Some b) u) ≡ is_some (before u)
    by_test (inl y) = ap is_some (placed before moved (Some b) u y) ∙ sym (slept y)
    by_test (inr out) = ap is_some (unplaced before moved (Some b) u out)

requeues : (t a b n m : ℕ) (before after : ℕ → Option ℕ) (woken moved : List ℕ)
    → Wakes before a n woken (with_place before woken None) → Shifts (with_place before woken None) a b m moved after
    → Rouses t before after woken
requeues t a b n m before after woken moved w h = record {
  alike = λ u ne out. shifts a b m (with_place before woken None) after moved u h
      ∙ ap is_some (unplaced before woken None u out);
  slept = λ u y. (a, w.choice.slept u y);
}

-- what a step of thread t leaves as it was, which woke these
pub record Spares (s s' : State) (t : ℕ) (woken : List ℕ) : Type 0 where
  pub grows : s.made ≤ s'.made
  pub made : s'.made ≤ suc s.made
  pub thread : (u : ℕ) → u ≢ t → u ≢ suc s.made → s'.thread u ≡ s.thread u
  pub sleeps : Rouses t s.asleep s'.asleep woken

keeps : (s s' : State) (t : ℕ) (woken : List ℕ) → s'.made ≡ s.made → s'.thread ≡ s.thread
    → Rouses t s.asleep s'.asleep woken → Spares s s' t woken
keeps s s' t woken made thread sleeps = record {
  grows = omega (arith, made);
  made = omega (arith, made);
  thread = λ u ne new. ap (λ f. f u) thread;
  sleeps = sleeps;
}

quiet : (s s' q : State) (t : ℕ) (woken : List ℕ) → woken ≡ [] → s' ≡ q → q.made ≡ s.made → q.thread ≡ s.thread
    → q.asleep ≡ s.asleep → Spares s s' t woken
quiet s s' q t woken none is made thread asleep =
    keeps s s' t woken (ap (λ (x : State). x.made) is ∙ made) (ap (λ (x : State). x.thread) is ∙ thread)
    (still t s.asleep s'.asleep woken none (ap (λ (x : State). x.asleep) is ∙ asleep))

quiet_if : (s s' : State) (t a v : ℕ) (woken : List ℕ) (b : Bool) → woken ≡ []
    → s' ≡ (if b then with_word s a v else s) → Spares s s' t woken
quiet_if s s' t a v woken true none is = quiet s s' _ t woken none is refl refl refl
quiet_if s s' t a v woken false none is = quiet s s' s t woken none is refl refl refl

-- other sleepers
sleeping : (s s' q : State) (t : ℕ) (woken : List ℕ) (after : ℕ → Option ℕ) → s' ≡ q → q.made ≡ s.made
    → q.thread ≡ s.thread → q.asleep ≡ after → Rouses t s.asleep after woken → Spares s s' t woken
sleeping s s' q t woken after is made thread asleep sleeps =
    keeps s s' t woken (ap (λ (x : State). x.made) is ∙ made) (ap (λ (x : State). x.thread) is ∙ thread)
    (subst (λ (f : ℕ → Option ℕ). Rouses t s.asleep f woken) (sym (ap (λ (x : State). x.asleep) is ∙ asleep)) sleeps)

-- a thread more
forks : (s s' q : State) (t : ℕ) (x : Thread) (woken : List ℕ) → woken ≡ [] → s' ≡ q → q.made ≡ suc s.made
    → q.thread ≡ put s.thread (suc s.made) (Some x) → q.asleep ≡ s.asleep → Spares s s' t woken
forks s s' q t x woken none is made thread asleep =
    let more : s'.made ≡ suc s.made = ap (λ (y : State). y.made) is ∙ made in
    record {
      grows = omega (arith, more);
      made = omega (arith, more);
      thread = λ u ne new. ap (λ (y : State). y.thread u) is ∙ ap (λ f. f u) thread
          ∙ put-there s.thread (suc s.made) (Some x) u new;
      sleeps = still t s.asleep s'.asleep woken none (ap (λ (y : State). y.asleep) is ∙ asleep);
    }

serves : (t : ℕ) (request : Request) (s : State) (woken : List ℕ) (answer : ℕ) (s' : State)
    → Serves t request s woken answer s' → Spares s s' t woken
serves t (AskLoad a) s woken answer s' h = quiet s s' _ t woken h.1.0 h.1.1.1 refl refl refl
serves t (AskStore a v) s woken answer s' h = quiet s s' _ t woken h.1.0 h.1.1.1 refl refl refl
serves t (AskSwap a v) s woken answer s' h = quiet s s' _ t woken h.1.0 h.1.1.1 refl refl refl
serves t (AskCompareSwap a expected new) s woken answer s' h =
    quiet_if s s' t a new woken (s.word a == expected) h.1.0 h.1.1.1
serves t (AskOr a v) s woken answer s' h = quiet s s' _ t woken h.1.0 h.1.1.1 refl refl refl
serves t (AskAdd a v) s woken answer s' h = quiet s s' _ t woken h.1.0 h.1.1.1 refl refl refl
serves t (AskFork entry arguments has_room) s woken answer s' h = elim h.1 [
  | inl full ↦ quiet s s' s t woken h.0 full.2 refl refl refl
  | inr more ↦ forks s s' _ t _ woken h.0 more.3 refl refl refl
]
serves t (AskPrint number) s woken answer s' h = quiet s s' _ t woken h.0 h.1.1 refl refl refl
serves t (AskWait a expected) s woken answer s' h = elim h.1.1 [
  | inl slept ↦ sleeping s s' _ t woken slept.0 slept.3 refl refl refl (joins t a s.asleep slept.0 woken h.1.0 slept.1.joins)
  | inr again ↦ quiet s s' s t woken h.1.0 again.2 refl refl refl
]
serves t (AskWake a n) s woken answer s' h =
    sleeping s s' _ t woken h.1 h.4 refl refl refl (wakes t a n s.asleep h.1 woken h.2)
serves t (AskRequeue a b n m expected) s woken answer s' h = elim h.2 [
  | inl went ↦ sleeping s s' _ t woken went.1 went.4 refl refl refl
      (requeues t a b n m s.asleep went.1 woken went.0 went.2.wakes went.2.moves)
  | inr again ↦ quiet s s' s t woken again.1 again.3 refl refl refl
]
serves t AskReturn s woken answer s' h = quiet s s' _ t woken h.0 h.1.1 refl refl refl
serves t (AskReturnValue v) s woken answer s' h = quiet s s' _ t woken h.0 h.1.1 refl refl refl
serves t (AskFault cause) s woken answer s' h = quiet s s' _ t woken h.0 h.1.1 refl refl refl

-- the steps of an exit
idles : (t : ℕ) (before after : Shared) (woken : List ℕ) → IsIdle before woken after
    → Rouses t before.asleep after.asleep woken
idles t before after woken h =
    still t before.asleep after.asleep woken h.nobody (ap (λ (x : Shared). x.asleep) h.same)

entry : (size t e : ℕ) (before after : Shared) (woken : List ℕ) → EntryStep size t e before woken after
    → Rouses t before.asleep after.asleep woken
entry size t e before after woken (IsPending is h) = idles t before after woken h
entry size t e before after woken (IsForeign other h) = idles t before after woken h
entry size t e before after woken (IsOwned ne h) = wakes t _ _ before.asleep after.asleep woken h.wakes

pending : (rule : ExitRule) (size t e : ℕ) (before after : Shared) (woken : List ℕ)
    → PendingStep rule size t e before woken after
    → Rouses t before.asleep after.asleep woken
pending rule size t e before after woken (NoEntry absent h) = idles t before after woken h
pending rule size t e before after woken (IsForeign is other so h) =
    wakes t _ _ before.asleep after.asleep woken h.wakes
pending rule size t e before after woken (IsPassed is other so h) = idles t before after woken h
pending rule size t e before after woken (IsOwned is h) = wakes t _ _ before.asleep after.asleep woken h.wakes

leaves : (rule : ExitRule) (size t : ℕ) (phase : ExitPhase) (before after : Shared) (woken : List ℕ) (next : ExitPhase)
    → ExitStep rule size t phase before woken after next → Rouses t before.asleep after.asleep woken
leaves rule size t (Entry e seen) before after woken next h = elim h [
  | inl here ↦ entry size t e.0 before after woken here.1
  | inr past ↦ idles t before after woken past.1
]
leaves rule size t Pending before after woken next h = pending rule size t _ before after woken h.0
leaves rule size t ClearId before after woken next h =
    still t before.asleep after.asleep woken h.0 (ap (λ (x : Shared). x.asleep) h.1)
leaves rule size t LastWake before after woken next h = wakes t _ _ before.asleep after.asleep woken h.0.wakes
leaves rule size t Ended before after woken next h = absurd h

-- and its thread goes on
goes_on : (s mid s' : State) (t : ℕ) (x : Thread) (woken : List ℕ) → Spares s mid t woken → s' ≡ with_thread mid t x
    → Spares s s' t woken
goes_on s mid s' t x woken h is =
    let made : s'.made ≡ mid.made = ap (λ (y : State). y.made) is in
    record {
      grows = omega (arith, made, h.grows);
      made = omega (arith, made, h.made);
      thread = λ u ne new. ap (λ (y : State). y.thread u) is ∙ put-there mid.thread t (Some x) u ne ∙ h.thread u ne new;
      sleeps = subst (λ (f : ℕ → Option ℕ). Rouses t s.asleep f woken) (sym (ap (λ (y : State). y.asleep) is)) h.sleeps;
    }

moves : (rule : ExitRule) (s s' : State) (t : ℕ) (woken : List ℕ) (l : Look) → Moves rule s t woken l s' → Spares s s' t woken
moves rule s s' t woken (Goes x) h = goes_on s s s' t x woken (quiet s s s t woken h.0 refl refl refl refl) h.1
moves rule s s' t woken (Asks request go) h =
    goes_on s h.1 s' t (go h.0) woken (serves t request s woken h.0 h.1 h.2) h.3
moves rule s s' t woken (Leaves phase) h =
    goes_on s _ s' t (Exits h.1) woken (sleeping s _ _ t woken h.0.asleep refl refl refl refl
    (leaves rule s.size t phase _ h.0 woken h.1 h.2)) h.3
moves rule s s' t woken Breaks h = absurd h
moves rule s s' t woken Rests h = absurd h

-- whether others can move
same_can : (o o' : Option ℕ) (x x' : Option Thread) → is_some o' ≡ is_some o → x' ≡ x
    → thread_can_move o' x' ≡ thread_can_move o x
same_can o o' x x' place is = ap (thread_can_move o') is ∙ by_thread x
  where
    by_thread : (y : Option Thread) → thread_can_move o' y ≡ thread_can_move o y
    by_thread None = refl
    by_thread (Some y) = ap (λ b. not (b || has_ended (Some y))) place

-- who was woken can stand in a set
members : (p : Program) (k k' : ConcreteState) (t : ℕ) (woken : List ℕ) → IsWellFormed p k
    → Spares (state_of k) (state_of k') t woken → All IsMember woken
members p k k' t woken well h i d l =
    let s = h.sleeps.slept (get_or woken i d) (names-get_or woken i d l) in
    let m = well.made (get_or woken i d) s.0 s.1 in (m.0, omega (arith, m.1, well.few, well.fits))

pub spared : (p : Program) (k k' : ConcreteState) (t : ℕ) (woken : List ℕ) (u : ℕ) → IsWellFormed p k
    → Spares (state_of k) (state_of k') t woken → 1 ≤ u → u ≢ t → has (set_of woken) u ≡ false
    → (length k.threads < length k'.threads → u ≢ length k'.threads) → can_move k' u ≡ can_move k u
spared p k k' t woken u well h le ne out old =
    let unnamed : names woken u ≡ false = sym (sets_so woken u (members p k k' t woken well h) le) ∙ out in
    let most : length k'.threads ≤ suc (length k.threads) = h.made in
    elim (cases_eq u (suc (length k.threads))) [
      | inl e ↦ elim (cases_lt (length k.threads) (length k'.threads)) [
        | inl more ↦ absurd (old more (omega (arith, e, more, most)))
        | inr same ↦ none_past k' u (omega (arith, e, same)) ∙ sym (none_past k u (omega (arith, e)))
      ]
      | inr new ↦ same_can (k.common.asleep u) (k'.common.asleep u) (thread_of k u) (thread_of k' u)
          (h.sleeps.alike u ne unnamed) (h.thread u ne new)
    ]

-- the bits behind it, once those are right that it may have changed
pub shows_after : (p : Program) (k k' : ConcreteState) (t : ℕ) (woken : List ℕ) (set : ThreadSet) (old new : List ℕ)
    → IsWellFormed p k → IsWellFormed p k' → Spares (state_of k) (state_of k') t woken → set ≡ set_of woken
    → ShowsAble old k → KeepsBits old new k'
    → MendsBits new k' (length k.threads) t set
    → ShowsAble new k'
shows_after p k k' t woken set old new well well' h is shows kept right u le =
    let grows : length k.threads ≤ length k'.threads = h.grows in
    elim (cases_lt most_threads u) [
      | inl far ↦
          let past' : length k'.threads < u = omega (arith, far, well'.few, well'.fits) in
          kept u le (shows u le ∙ none_past k u (omega (arith, past', grows)) ∙ sym (none_past k' u past'))
      | inr near ↦ elim (cases_eq u t) [
        | inl e ↦ right u (le, near) (inl e)
        | inr ne ↦ elim (cases_Bool (has set u)) [
          | inl y ↦ right u (le, near) (inr (inr y))
          | inr out ↦ elim (cases_lt (length k.threads) (length k'.threads)) [
            | inl more ↦ elim (cases_eq u (length k'.threads)) [
              | inl e ↦ right u (le, near) (inr (inl (more, e)))
              | inr other ↦ kept u le (shows u le ∙ sym (spared p k k' t woken u well h le ne
                  (ap (λ s. has s u) (sym is) ∙ out) (λ l. other)))
            ]
            | inr same ↦ kept u le (shows u le ∙ sym (spared p k k' t woken u well h le ne
                (ap (λ s. has s u) (sym is) ∙ out) (λ l. absurd (omega (arith, same, l)))))
          ]
        ]
      ]
    ]

-- behind the machine's own step
pub shows_step : (p : Program) (k k' : ConcreteState) (t : ℕ) (e : Event) (old new : List ℕ) → IsWellFormed p k
    → step_of p k t ≡ Ok (k', e) → ShowsAble old k
    → KeepsBits old new k'
    → MendsBits new k' (length k.threads) t e.woken
    → ShowsAble new k'
shows_step p k k' t e old new well done shows kept right =
    let s = steps_so p k k' t e well done in
    shows_after p k k' t s.0 e.woken old new well s.3
    (moves (exit_of p.version) (state_of k) (state_of k') t s.0 (look p t s.2.thread) s.2.moves) s.1 shows kept right

-- and where the step may be refused, which changes nothing
pub shows_result : {A : Type 0} (p : Program) (k k' : ConcreteState) (t : ℕ) (r : Result A StepFault) (e : Event)
    (old new : List ℕ) → IsWellFormed p k → OnOk r (step_of p k t ≡ Ok (k', e)) → OnErr r (k' ≡ k) → ShowsAble old k
    → KeepsBits old new k'
    → MendsBits new k' (length k.threads) t e.woken
    → ShowsAble new k'
shows_result p k k' t (Ok a) e old new well done same shows kept right =
    shows_step p k k' t e old new well done shows kept right
shows_result p k k' t (Err f) e old new well done same shows kept right =
    λ u le. kept u le (shows u le ∙ ap (λ (q : ConcreteState). can_move q u) (sym same))

-- where no more than one thread has changed
pub shows_one : (k k' : ConcreteState) (t : ℕ) (old new : List ℕ) → ShowsAble old k
    → ((u : ℕ) → u ≢ t → can_move k' u ≡ can_move k u)
    → KeepsBits old new k' → IsBitSo new k' t → ShowsAble new k'
shows_one k k' t old new shows others kept right u le = elim (cases_eq u t) [
  | inl e ↦ subst (λ n. IsBitSo new k' n) (sym e) right
  | inr ne ↦ kept u le (shows u le ∙ sym (others u ne))
]

-- a thread is put where it goes
pub put_spares : (c : Common) (threads : List Thread) (t : ℕ) (x : Thread) (u : ℕ) → 1 ≤ t → u ≢ t
    → can_move (record { common = c; threads = slice_set threads (t - 1) x }) u
    ≡ can_move (record { common = c; threads = threads }) u
put_spares c threads t x zero some ne = refl
put_spares c threads t x (suc v) some ne =
    ap (thread_can_move (c.asleep (suc v))) (get_set_other threads (t - 1) v x (λ e. ne (omega (arith, e, some))))

-- and is taken out of its list
pub drop_spares : (c c' : Common) (threads : List Thread) (t u : ℕ) → c' ≡ drop_sleeper c t → u ≢ t
    → can_move (record { common = c'; threads = threads }) u ≡ can_move (record { common = c; threads = threads }) u
drop_spares c c' threads t u dropped ne =
    ap (λ (x : Common). thread_can_move (x.asleep u) (thread_at threads u)) dropped
    ∙ ap (λ o. thread_can_move o (thread_at threads u))
    (unplaced c.asleep (t ∷ []) None u (ap (λ b. b || false) (ne_eqb u t ne)))

-- at the start the first thread can move, and no other was made
pub shows_opening : (p : Program) (old new : List ℕ) → old ≡ replicate 16 0 → has_bit new 1 ≡ true
    → ((u : ℕ) → 1 ≤ u → u ≢ 1 → has_bit new u ≡ has_bit old u) → ShowsAble new (opening_concrete p)
shows_opening p old new none first others u le = elim (cases_eq u 1) [
  | inl e ↦ ap (has_bit new) e ∙ first ∙ ap (can_move (opening_concrete p)) (sym e)
  | inr ne ↦ others u le ne ∙ ap (λ ws. has_bit ws u) none ∙ none_set u
      ∙ sym (none_past (opening_concrete p) u (omega (arith, le, ne)))
]

-- a piece of a futex call
acts : (t : ℕ) (call : FutexCall) (before after : ℕ → Option ℕ) (woken moved : List ℕ)
    → Acts t call before woken moved after → Rouses t before after woken
acts t (Wait a expected) before after woken moved h = joins t a.0 before after woken h.0 h.2
acts t (Wake a n) before after woken moved h = wakes t a.0 n before after woken h.1
acts t (Requeue a b n m expected) before after woken moved h =
    requeues t a.0 b.0 n m before after woken moved h.wakes h.moves

compared : (t a expected : ℕ) (word : ℕ → ℕ) (call : FutexCall) (s s' : Sleepers) (answer : PieceAnswer)
    → ComparesSo word call a expected s (Done answer) s' → Rouses t (place_of s) (place_of s') (woken_in answer)
compared t a expected word call s s' Again h = still t (place_of s) (place_of s') [] refl h.1.places
compared t a expected word call s s' (Acted r) h = absurd h

not_taken : (t : ℕ) (o : Option ℕ) (next : FutexPhase) (s s' : Sleepers) (answer : PieceAnswer)
    → TakesSo t o next s (Done answer) s' → ⊥
not_taken t None next s s' answer h = h
not_taken t (Some b) next s s' answer h = h

pub piece_rouses : (t : ℕ) (word : ℕ → ℕ) (call : FutexCall) (phase : FutexPhase) (s s' : Sleepers)
    (answer : PieceAnswer) → PieceSo word t call phase s (Done answer) s'
    → Rouses t (place_of s) (place_of s') (woken_in answer)
piece_rouses t word call First s s' answer h = absurd (not_taken t _ (after_lock (bucket_count s) First call) s s' answer h)
piece_rouses t word call Second s s' answer h =
    absurd (not_taken t _ (after_lock (bucket_count s) Second call) s s' answer h)
piece_rouses t word (Wait a expected) Compare s s' answer h =
    compared t a.0 expected word (Wait a expected) s s' answer h
piece_rouses t word (Wake a n) Compare s s' answer h = absurd h
piece_rouses t word (Requeue a b n m expected) Compare s s' answer h =
    compared t a.0 expected word (Requeue a b n m expected) s s' answer h
piece_rouses t word call Act s s' Again h = absurd h
piece_rouses t word call Act s s' (Acted r) h = acts t call (place_of s) (place_of s') r.woken r.moved h.acts

-- a call that goes on changes nobody's sleep
taken_places : (t : ℕ) (o : Option ℕ) (after next : FutexPhase) (s s' : Sleepers) → TakesSo t o after s (Next next) s'
    → place_of s' ≡ place_of s
taken_places t None after next s s' h = absurd h
taken_places t (Some b) after next s s' h = h.2.places

pub next_places : (t : ℕ) (word : ℕ → ℕ) (call : FutexCall) (phase next : FutexPhase) (s s' : Sleepers)
    → PieceSo word t call phase s (Next next) s' → place_of s' ≡ place_of s
next_places t word call First next s s' h = taken_places t _ (after_lock (bucket_count s) First call) next s s' h
next_places t word call Second next s s' h = taken_places t _ (after_lock (bucket_count s) Second call) next s s' h
next_places t word (Wait a expected) Compare next s s' h = ap place_of h.2
next_places t word (Wake a n) Compare next s s' h = absurd h
next_places t word (Requeue a b n m expected) Compare next s s' h = ap place_of h.2
next_places t word call Act next s s' h = absurd h

-- the bits behind a piece by which a call is over
pub shows_done : (p : Program) (v v' : View) (t : ℕ) (call : FutexCall) (phase : FutexPhase) (value : ℕ) (event : Event)
    (x : Thread) (old new : List ℕ) → IsWellFormed p (concrete v) → IsWellFormed p (concrete v') → 1 ≤ t
    → v'.threads ≡ slice_set v.threads (t - 1) x → Told v t call phase (common.Done value) event v'
    → ShowsAble old (concrete v) → KeepsBits old new (concrete v')
    → MendsBits new (concrete v') (length v.threads) t event.woken
    → ShowsAble new (concrete v')
shows_done p v v' t call phase value event x old new well well' some threads told shows kept right =
    let d = done_told call told.0 value event told.2 in
    let piece = subst (λ (q : PieceProgress). PieceSo (word_of v.words) t call phase v.sleepers q v'.sleepers) d.1 told.1 in
    let many : length v'.threads ≡ length v.threads = ap length threads ∙ length-set v.threads (t - 1) x in
    shows_after p (concrete v) (concrete v') t (woken_in d.0) event.woken old new well well'
    (record {
      grows = omega (arith, many);
      made = omega (arith, many);
      thread = λ u ne new. ap (λ (ts : List Thread). thread_at ts u) threads ∙ at u ne;
      sleeps = piece_rouses t (word_of v.words) call phase v.sleepers v'.sleepers d.0 piece;
    })
    (ap (λ (e : Event). e.woken) d.3) shows kept right
  where
    at : (u : ℕ) → u ≢ t → thread_at (slice_set v.threads (t - 1) x) u ≡ thread_at v.threads u
    at zero ne = refl
    at (suc w) ne = get_set_other v.threads (t - 1) w x (λ e. ne (omega (arith, e, some)))

-- behind one that goes on, or that a held bucket is in the way of, they are as before
alike : (v v' : View) (old : List ℕ) → v'.threads ≡ v.threads → place_of v'.sleepers ≡ place_of v.sleepers
    → ShowsAble old (concrete v) → ShowsAble old (concrete v')
alike v v' old threads places shows u le =
    shows u le ∙ sym (λ i. thread_can_move (places i u) (thread_at (threads i) u))

pub shows_next : (v v' : View) (t : ℕ) (call : FutexCall) (phase next : FutexPhase) (event : Event) (old : List ℕ)
    → v'.threads ≡ v.threads → Told v t call phase (common.Next next) event v' → ShowsAble old (concrete v)
    → ShowsAble old (concrete v')
shows_next v v' t call phase next event old threads told shows =
    let piece = subst (λ (q : PieceProgress). PieceSo (word_of v.words) t call phase v.sleepers q v'.sleepers)
    (next_told call told.0 next event told.2) told.1 in
    alike v v' old threads (next_places t (word_of v.words) call phase next v.sleepers v'.sleepers piece) shows

pub shows_blocked : (v v' : View) (t : ℕ) (call : FutexCall) (phase : FutexPhase) (event : Event) (old : List ℕ)
    → v'.threads ≡ v.threads → Told v t call phase common.Blocked event v' → ShowsAble old (concrete v)
    → ShowsAble old (concrete v')
shows_blocked v v' t call phase event old threads told shows =
    let piece = subst (λ (q : PieceProgress). PieceSo (word_of v.words) t call phase v.sleepers q v'.sleepers)
    (blocked_told call told.0 event told.2) told.1 in
    alike v v' old threads
    (ap place_of (blocked_same t (word_of v.words) call phase v.sleepers v'.sleepers piece)) shows

-- the first that can move, by the bits
pub least_able : (words : List ℕ) (k : ConcreteState) (from low : ℕ) (o : Option ℕ) → ShowsAble words k → from ≤ low
    → low ≤ max from 1 → 1 ≤ low → IsLeastFrom (has_bit words) low o → IsLeastFrom (can_move k) from o
least_able words k from low None shows le most some least = none
  where
    none : (u : ℕ) → from ≤ u → can_move k u ≡ false
    none zero from_le = refl
    none (suc u) from_le = sym (shows (suc u) (omega arith)) ∙ least (suc u) (omega (arith, from_le, most))
least_able words k from low (Some u) shows le most some least =
    let past : low ≤ u = least.0 in (
      omega (arith, le, past),
      sym (shows u (omega (arith, some, past))) ∙ least.1,
      below,
    )
  where
    below : (v : ℕ) → from ≤ v → v < u → can_move k v ≡ false
    below zero from_le less = refl
    below (suc v) from_le less =
        sym (shows (suc v) (omega arith)) ∙ least.2 (suc v) (omega (arith, from_le, most)) less

-- nobody has the number 0
pub least_some : (k : ConcreteState) (from low : ℕ) (o : Option ℕ) → from ≤ low → low ≤ max from 1
    → IsLeastFrom (can_move k) low o → IsLeastFrom (can_move k) from o
least_some k from low None le most least = none
  where
    none : (u : ℕ) → from ≤ u → can_move k u ≡ false
    none zero from_le = refl
    none (suc u) from_le = least (suc u) (omega (arith, from_le, most))
least_some k from low (Some u) le most least = (omega (arith, le, least.0), least.1, below)
  where
    below : (v : ℕ) → from ≤ v → v < u → can_move k v ≡ false
    below zero from_le less = refl
    below (suc v) from_le less = least.2 (suc v) (omega (arith, from_le, most)) less

-- what always holds is kept where a thread goes on in its place
pub keeps_put : (p : Program) (k : ConcreteState) (t : ℕ) (x : Thread) → IsWellFormed p k
    → IsWellFormed p (record { common = k.common; threads = slice_set k.threads (t - 1) x })
keeps_put p k t x well =
    let same : length (slice_set k.threads (t - 1) x) ≡ length k.threads = length-set k.threads (t - 1) x in record {
      most = well.most;
      fits = well.fits;
      sized = well.sized;
      some = omega (arith, same, well.some);
      few = omega (arith, same, well.few);
      agree = well.agree;
      made = λ u a h. let r = well.made u a h in (r.0, omega (arith, same, r.1));
    }

-- the bits behind that
pub shows_put : (c : Common) (threads seen : List Thread) (t : ℕ) (x : Thread) (old new : List ℕ) → 1 ≤ t
    → seen ≡ slice_set threads (t - 1) x → ShowsAble old (record { common = c; threads = threads })
    → KeepsBits old new (record { common = c; threads = seen }) → IsBitSo new (record { common = c; threads = seen }) t
    → ShowsAble new (record { common = c; threads = slice_set threads (t - 1) x })
shows_put c threads seen t x old new some is shows kept right =
    subst (λ (ts : List Thread). ShowsAble new (record { common = c; threads = ts })) is
    (shows_one (record { common = c; threads = threads }) (record { common = c; threads = seen }) t old new shows
    (λ u ne. ap (λ (ts : List Thread). can_move (record { common = c; threads = ts }) u) is
    ∙ put_spares c threads t x u some ne) kept right)

-- who can move was made
pub mover_made : (p : Program) (k : ConcreteState) (t : ℕ) → IsWellFormed p k → can_move k t ≡ true
    → (1 ≤ t) × (t ≤ length k.threads)
mover_made p k zero well h = absurd cc
mover_made p k (suc t) well h = elim (cases_lt (length k.threads) (suc t)) [
  | inl past ↦ absurd (both_ways (can_move k (suc t)) (none_past k (suc t) past) h)
  | inr near ↦ (omega arith, near)
]
