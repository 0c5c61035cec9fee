-- What a step of one thread leaves to the others: they stay where they are, and who is awake stays awake.
use Rattle.std.proofs.Common.{◌≡◌, ◌≢◌, ◌≤◌, ◌+◌, ℕ, suc, ◌==◌, Bool, true, false, cond, inl, inr, List, [], ◌∷◌, length}
use Rattle.std.proofs.Common.{Option, Some, None, refl, ap, sym, ◌∙◌, arith, subst}
use Rattle.std.specs.Prelude.{ℤ, ◌||◌}
use Rattle.std.proofs.lemmas.Bool.{cases_eq, ne_eqb}
use Rattle.robustexit.specs.declared.phase.ExitPhase.{ExitPhase}
use Rattle.robustexit.specs.declared.phase.ExitPhase.TheVariants.{Entry, Pending, ClearId, LastWake, Ended}
use Rattle.robustexit.specs.RobustExit.{Shared, IsIdle, EntryStep, PendingStep, NoEntry, IsPending, IsForeign, IsPassed}
use Rattle.robustexit.specs.RobustExit.{IsOwned, ExitStep, put}
use Rattle.buckets.specs.Places.{names, with_place}
use Rattle.futexcalls.specs.FutexCalls.{Wakes, Moves as Requeued, Requeues, Sleeps}
use Rattle.futexcalls.specs.declared.pieces.FutexCall.{FutexCall}
use Rattle.futexcalls.specs.declared.pieces.FutexCall.TheVariants.{Wait, Wake, Requeue}
use Rattle.futexcalls.specs.declared.pieces.FutexPhase.{FutexPhase}
use Rattle.futexcalls.specs.declared.pieces.FutexPhase.TheVariants.{First, Act}
use Rattle.futexcalls.specs.Pieces.{Acts, after_lock, buckets_of}
use Rattle.isa.specs.Programs.{Program}
use Rattle.words.specs.declared.outcome.Cause.TheVariants.{Killed}
use Rattle.locals.specs.Threads.{Thread, Dies, Exits, opening_thread}
use Rattle.locals.specs.Looks.{Request, AskLoad, AskStore, AskSwap, AskCompareSwap, AskOr, AskAdd, AskFork, AskPrint}
use Rattle.locals.specs.Looks.{AskWait, AskWake, AskRequeue, AskReturn, AskReturnValue, AskFault}
use Rattle.machine.specs.States.{State, with_thread, with_word, with_sleepers}
use Rattle.machine.specs.AbstractServing.{Serves, with_child, shared_of, with_shared}
use Rattle.machine.specs.Runs.{Step, killed_to}
use Rattle.machine.specs.PieceStates.{PieceState}
use Rattle.machine.specs.PieceSteps.{Piece, IsLocal, IsPlain, IsExit, IsLock, IsEqual, IsAgain, IsAct, IsOwnPiece}
use Rattle.machine.specs.PieceSteps.{IsPieceStray, IsPieceKill, goes_outside, killed_piece, again_of}
use Rattle.robustexit.specs.ExitRules.{exit_of}
use Rattle.robustexit.specs.declared.rule.ExitRule.{ExitRule}

-- who was awake, but for thread t, still is
abbrev StaysAwake : ℕ → (ℕ → Option ℕ) → (ℕ → Option ℕ) → Type 0
StaysAwake t before after = (u : ℕ) → u ≢ t → before u ≡ None → after u ≡ None

pub record Beside (t : ℕ) (s s' : State) : Type 0 where
  pub stay : (u : ℕ) (x : Thread) → u ≢ t → s.thread u ≡ Some x → s'.thread u ≡ Some x
  pub awake : StaysAwake t s.asleep s'.asleep
  pub made : s.made ≤ s'.made

-- threads have numbers up to how many were made
abbrev pub IsNumbered : State → Type 0
IsNumbered s = (u : ℕ) (x : Thread) → s.thread u ≡ Some x → u ≤ s.made

to : (t : ℕ) (s s' s'' : State) → s'' ≡ s' → Beside t s s' → Beside t s s''
to t s s' s'' is b = subst (λ (q : State). Beside t s q) (sym is) b

same : (t : ℕ) (s : State) → Beside t s s
same t s = record { stay = λ u x other h. h; awake = λ u other h. h; made = omega arith }

by_words : (t : ℕ) (s : State) (words : ℕ → ℕ) (output : List ℤ)
    → Beside t s (record s { word = words; output = output })
by_words t s words output = record { stay = λ u x other h. h; awake = λ u other h. h; made = omega arith }

by_test : (t a v : ℕ) (s : State) (b : Bool) → Beside t s (cond b (with_word s a v) s)
by_test t a v s true = by_words t s (put s.word a v) s.output
by_test t a v s false = same t s

by_sleepers : (t : ℕ) (s : State) (after : ℕ → Option ℕ) → StaysAwake t s.asleep after
    → Beside t s (with_sleepers s after)
by_sleepers t s after awake = record { stay = λ u x other h. h; awake = awake; made = omega arith }

at_other : {A : Type 0} → (u t : ℕ) (x y : A) → u ≢ t → cond (u == t) x y ≡ y
at_other u t x y other = rw (ne_eqb u t other) refl

by_thread : (t : ℕ) (s : State) (x : Thread) → Beside t s (with_thread s t x)
by_thread t s x = record {
  stay = λ u y other h. at_other u t (Some x) (s.thread u) other ∙ h;
  awake = λ u other h. h;
  made = omega arith;
}

by_child : (t entry : ℕ) (arguments : List ℕ) (s : State) → IsNumbered s → Beside t s (with_child s entry arguments)
by_child t entry arguments s numbered = record {
  stay = λ u y other h. at_other u (suc s.made) (Some (opening_thread entry arguments)) (s.thread u)
      (λ (e : u ≡ suc s.made). let few = numbered u y h in absurd (omega arith)) ∙ h;
  awake = λ u other h. h;
  made = omega arith;
}

-- a wake, of whoever
still_by : (b : Bool) (o : Option ℕ) → o ≡ None → cond b None o ≡ None
still_by true o h = refl
still_by false o h = h

pub wakes_awake : (t a n : ℕ) (before after : ℕ → Option ℕ) (woken : List ℕ) → Wakes before a n woken after
    → StaysAwake t before after
wakes_awake t a n before after woken wakes u other h = ap (λ (f : ℕ → Option ℕ). f u) wakes.awake
    ∙ still_by (names woken u) (before u) h

-- a sleep of thread t
joins_awake : (t a : ℕ) (before after : ℕ → Option ℕ) → after ≡ with_place before (t ∷ []) (Some a)
    → StaysAwake t before after
joins_awake t a before after joins u other h =
    ap (λ (f : ℕ → Option ℕ). f u) joins
    ∙ ap (λ (b : Bool). cond (b || false) (Some a) (before u)) (ne_eqb u t other) ∙ h

sleeps_awake : (t a expected : ℕ) (word : ℕ → ℕ) (before after : ℕ → Option ℕ)
    → Sleeps word before t a expected after → StaysAwake t before after
sleeps_awake t a expected word before after sleeps = joins_awake t a before after sleeps.joins

-- a move, of sleepers
not_named : (b : ℕ) (n : Bool) (o : Option ℕ) → o ≡ None → (n ≡ true → ⊥) → cond n (Some b) o ≡ None
not_named b true o h none = absurd (none refl)
not_named b false o h none = h

no_name : (moved : List ℕ) (u : ℕ) → moved ≡ [] → names moved u ≡ true → ⊥
no_name [] u e h = cc
no_name (t ∷ ts) u e h = cc

clash : (o : Option ℕ) (a : ℕ) → o ≡ None → o ≡ Some a → ⊥
clash None a h e = cc
clash (Some b) a h e = cc

moves_awake : (t a b n : ℕ) (before after : ℕ → Option ℕ) (moved : List ℕ) → Requeued before a b n moved after
    → StaysAwake t before after
moves_awake t a b n before after moved moves u other h =
    ap (λ (f : ℕ → Option ℕ). f u) moves.goes
    ∙ not_named b (names moved u) (before u) h (λ named. elim (cases_eq a b) [
      | inl e ↦ no_name moved u (moves.none e) named
      | inr apart ↦ clash (before u) a h ((moves.choice apart).slept u named)
    ])

requeues_awake : (t a b n m expected : ℕ) (word : ℕ → ℕ) (before after : ℕ → Option ℕ) (woken moved : List ℕ)
    → Requeues word before a b n m expected woken moved after → StaysAwake t before after
requeues_awake t a b n m expected word before after woken moved r u other h =
    moves_awake t a b m (with_place before woken None) after moved r.moves u other
    (wakes_awake t a n before (with_place before woken None) woken r.wakes u other h)

-- what is served
serves : (t : ℕ) (r : Request) (s : State) (woken : List ℕ) (answer : ℕ) (s' : State) → IsNumbered s
    → Serves t r s woken answer s' → Beside t s s'
serves t (AskLoad a) s woken answer s' numbered h = to t s s s' h.1.1.1 (same t s)
serves t (AskStore a v) s woken answer s' numbered h = to t s _ s' h.1.1.1 (by_words t s (put s.word a v) s.output)
serves t (AskSwap a v) s woken answer s' numbered h = to t s _ s' h.1.1.1 (by_words t s (put s.word a v) s.output)
serves t (AskCompareSwap a expected new) s woken answer s' numbered h =
    to t s _ s' h.1.1.1 (by_test t a new s (s.word a == expected))
serves t (AskOr a v) s woken answer s' numbered h = to t s _ s' h.1.1.1 (by_words t s _ s.output)
serves t (AskAdd a v) s woken answer s' numbered h = to t s _ s' h.1.1.1 (by_words t s _ s.output)
serves t (AskFork entry arguments has_room) s woken answer s' numbered (quiet, inl full) =
    to t s s s' full.2 (same t s)
serves t (AskFork entry arguments has_room) s woken answer s' numbered (quiet, inr some) =
    to t s _ s' some.3 (by_child t entry arguments s numbered)
serves t (AskPrint number) s woken answer s' numbered h = to t s _ s' h.1.1 (by_words t s s.word _)
serves t (AskWait a expected) s woken answer s' numbered (lies, (quiet, inl slept)) =
    to t s _ s' slept.3 (by_sleepers t s slept.0 (sleeps_awake t a expected s.word s.asleep slept.0 slept.1))
serves t (AskWait a expected) s woken answer s' numbered (lies, (quiet, inr again)) = to t s s s' again.2 (same t s)
serves t (AskWake a n) s woken answer s' numbered h =
    to t s _ s' h.4 (by_sleepers t s h.1 (wakes_awake t a n s.asleep h.1 woken h.2))
serves t (AskRequeue a b n m expected) s woken answer s' numbered (lies, lies', inl done) =
    to t s _ s' done.4 (by_sleepers t s done.1
    (requeues_awake t a b n m expected s.word s.asleep done.1 woken done.0 done.2))
serves t (AskRequeue a b n m expected) s woken answer s' numbered (lies, lies', inr again) =
    to t s s s' again.3 (same t s)
serves t AskReturn s woken answer s' numbered h = to t s _ s' h.1.1 (by_words t s _ s.output)
serves t (AskReturnValue v) s woken answer s' numbered h = to t s _ s' h.1.1 (by_words t s _ s.output)
serves t (AskFault cause) s woken answer s' numbered h = to t s _ s' h.1.1 (by_words t s _ s.output)

-- a step of an exit
idle_awake : (t : ℕ) (before after : Shared) (woken : List ℕ) → IsIdle before woken after
    → StaysAwake t before.asleep after.asleep
idle_awake t before after woken idle u other h = ap (λ (q : Shared). q.asleep u) idle.same ∙ h

entry_awake : (size t e : ℕ) (before : Shared) (woken : List ℕ) (after : Shared)
    → EntryStep size t e before woken after → StaysAwake t before.asleep after.asleep
entry_awake size t e before woken after (IsPending is idle) = idle_awake t before after woken idle
entry_awake size t e before woken after (IsForeign other idle) = idle_awake t before after woken idle
entry_awake size t e before woken after (IsOwned other a) = wakes_awake t _ _ before.asleep after.asleep woken a.wakes

pending_awake : (rule : ExitRule) (size t e : ℕ) (before : Shared) (woken : List ℕ) (after : Shared)
    → PendingStep rule size t e before woken after → StaysAwake t before.asleep after.asleep
pending_awake rule size t e before woken after (NoEntry none idle) = idle_awake t before after woken idle
pending_awake rule size t e before woken after (IsForeign is other so one) =
    wakes_awake t _ _ before.asleep after.asleep woken one.wakes
pending_awake rule size t e before woken after (IsPassed is other so idle) = idle_awake t before after woken idle
pending_awake rule size t e before woken after (IsOwned is a) = wakes_awake t _ _ before.asleep after.asleep woken a.wakes

exit_awake : (rule : ExitRule) (size t : ℕ) (phase : ExitPhase) (before : Shared) (woken : List ℕ) (after : Shared)
    (next : ExitPhase) → ExitStep rule size t phase before woken after next → StaysAwake t before.asleep after.asleep
exit_awake rule size t (Entry e seen) before woken after next (inl h) = entry_awake size t e.0 before woken after h.1
exit_awake rule size t (Entry e seen) before woken after next (inr h) = idle_awake t before after woken h.1
exit_awake rule size t Pending before woken after next h = pending_awake rule size t _ before woken after h.0
exit_awake rule size t ClearId before woken after next h = λ u other is. ap (λ (q : Shared). q.asleep u) h.1 ∙ is
exit_awake rule size t LastWake before woken after next h = wakes_awake t _ _ before.asleep after.asleep woken h.0.wakes
exit_awake rule size t Ended before woken after next h = absurd h

then_thread : (t : ℕ) (s mid s' : State) (x : Thread) → Beside t s mid → s' ≡ with_thread mid t x → Beside t s s'
then_thread t s mid s' x b is = to t s (with_thread mid t x) s' is (record {
  stay = λ u y other h. (by_thread t mid x).stay u y other (b.stay u y other h);
  awake = b.awake;
  made = b.made;
})

-- a wake of thread t from outside
pub outside_beside : (t : ℕ) (s s' : State) → s' ≡ with_sleepers s (put s.asleep t None) → Beside t s s'
outside_beside t s s' is =
    to t s (with_sleepers s (put s.asleep t None)) s' is
    (by_sleepers t s (put s.asleep t None) (λ u other h. at_other u t None (s.asleep u) other ∙ h))

-- a kill of thread t from outside
pub kill_beside : (t : ℕ) (s s' : State) (begins : Bool) → s' ≡ killed_to begins s t → Beside t s s'
kill_beside t s s' true is =
    let mid = with_sleepers s (put s.asleep t None) in
    then_thread t s mid s' (Dies Killed) (outside_beside t s mid refl) is
kill_beside t s s' false is = to t s s s' is (same t s)

-- what the act of thread t's call does
acts_awake : (t : ℕ) (call : FutexCall) (asleep after : ℕ → Option ℕ) (woken moved : List ℕ)
    → Acts t call asleep woken moved after → StaysAwake t asleep after
acts_awake t (Wait a expected) asleep after woken moved acts = joins_awake t a.0 asleep after acts.2
acts_awake t (Wake a wakes) asleep after woken moved acts =
    wakes_awake t a.0 wakes asleep after woken acts.1
acts_awake t (Requeue a b wakes moves expected) asleep after woken moved acts = λ u other h.
    moves_awake t a.0 b.0 moves (with_place asleep woken None) after moved acts.moves u other
    (wakes_awake t a.0 wakes asleep (with_place asleep woken None) woken acts.wakes u other h)

-- what a step of thread t leaves to the others, with their phases
pub record BesidePiece (t : ℕ) (s s' : PieceState) : Type 0 where
  pub base : Beside t s.base s'.base
  pub phases : (u : ℕ) → u ≢ t → s'.phase u ≡ s.phase u
  pub buckets : s'.buckets ≡ s.buckets

outside_piece : (t : ℕ) (s s' : PieceState) (mid : State) (buckets : List ℕ) (x : Thread) → Beside t s.base mid
    → s' ≡ goes_outside s t mid buckets x → BesidePiece t s s'
outside_piece t s s' mid buckets x b is = record {
  base = then_thread t s.base mid s'.base x b (ap (λ (q : PieceState). q.base) is);
  phases = λ u other. ap (λ (q : PieceState). q.phase u) is ∙ at_other u t First (s.phase u) other;
  buckets = ap (λ (q : PieceState). q.buckets) is;
}

within_piece : (t : ℕ) (s s' : PieceState) (phase : FutexPhase) → s'.base ≡ s.base → s'.phase ≡ put s.phase t phase
    → s'.buckets ≡ s.buckets → BesidePiece t s s'
within_piece t s s' phase is phases buckets = record {
  base = to t s.base s.base s'.base is (same t s.base);
  phases = λ u other. ap (λ (f : ℕ → FutexPhase). f u) phases ∙ at_other u t phase (s.phase u) other;
  buckets = buckets;
}

-- any step of its own
piece_beside : (p : Program) (s s' : PieceState) (t : ℕ) (x : Thread) (woken : List ℕ) → IsNumbered s.base
    → Piece p s t x woken s' → BesidePiece t s s'
piece_beside p s s' t x woken numbered (IsLocal y looks first quiet is) =
    outside_piece t s s' s.base [] y (same t s.base) is
piece_beside p s s' t x woken numbered (IsPlain request go answer mid looks plain first served is) =
    outside_piece t s s' mid [] (go answer) (serves t request s.base woken answer mid numbered served) is
piece_beside p s s' t x woken numbered (IsExit phase after next looks first step free is) =
    outside_piece t s s' (with_shared s.base after) [] (Exits next) (record {
      stay = λ u y other h. h;
      awake = exit_awake (exit_of p.version) s.base.size t phase (shared_of s.base) woken after next step;
      made = omega arith;
    }) is
piece_beside p s s' t x woken numbered (IsLock call go b looks lies takes free quiet is) =
    within_piece t s s' (after_lock s.buckets (s.phase t) call) (ap (λ (q : PieceState). q.base) is)
    (ap (λ (q : PieceState). q.phase) is) (ap (λ (q : PieceState). q.buckets) is)
piece_beside p s s' t x woken numbered (IsEqual call go a v looks compares at equal quiet is) =
    within_piece t s s' Act (ap (λ (q : PieceState). q.base) is) (ap (λ (q : PieceState). q.phase) is)
    (ap (λ (q : PieceState). q.buckets) is)
piece_beside p s s' t x woken numbered (IsAgain call go a v looks compares at differs quiet is) =
    outside_piece t s s' s.base (buckets_of s.buckets call) (go (again_of call)) (same t s.base) is
piece_beside p s s' t x woken numbered (IsAct call go moved after looks at acts is) =
    outside_piece t s s' (with_sleepers s.base after) (buckets_of s.buckets call) (go (length woken + length moved))
    (by_sleepers t s.base after (acts_awake t call s.base.asleep after woken moved acts)) is

pub own_beside : (p : Program) (s s' : PieceState) (step : Step) → IsNumbered s.base → IsOwnPiece p s step s'
    → BesidePiece step.thread s s'
own_beside p s s' step numbered own = piece_beside p s s' step.thread own.thread step.woken numbered own.piece

-- a wake from outside
pub stray_beside : (a : ℕ) (s s' : PieceState) (step : Step) → IsPieceStray a s step s' → BesidePiece step.thread s s'
stray_beside a s s' step stray = record {
  base = outside_beside step.thread s.base s'.base stray.strays.after;
  phases = λ u other. ap (λ (q : PieceState). q.phase u) stray.others;
  buckets = ap (λ (q : PieceState). q.buckets) stray.others;
}

-- a kill
killed_phases : (p : Program) (begins : Bool) (s : PieceState) (t u : ℕ) → u ≢ t
    → (killed_piece p begins s t).phase u ≡ s.phase u
killed_phases p true s t u other = at_other u t First (s.phase u) other
killed_phases p false s t u other = refl

killed_buckets : (p : Program) (begins : Bool) (s : PieceState) (t : ℕ) → (killed_piece p begins s t).buckets ≡ s.buckets
killed_buckets p true s t = refl
killed_buckets p false s t = refl

pub kills_beside : (p : Program) (begins : Bool) (s s' : PieceState) (step : Step) → IsPieceKill p begins s step s'
    → BesidePiece step.thread s s'
kills_beside p begins s s' step kill = record {
  base = kill_beside step.thread s.base s'.base begins kill.kills.after;
  phases = λ u other. ap (λ (q : PieceState). q.phase u) kill.after ∙ killed_phases p begins s step.thread u other;
  buckets = ap (λ (q : PieceState). q.buckets) kill.after ∙ killed_buckets p begins s step.thread;
}
