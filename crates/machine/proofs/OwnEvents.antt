-- No step of a thread's own is a wake from outside, and none of whole calls is a piece of one.
use Rattle.std.proofs.Common.{◌≡◌, ℕ, Bool, true, false, ◌||◌, not, cond, eqb, ltb, Option, Some, None, Result, Ok, Err}
use Rattle.std.proofs.Common.{◌+◌, length, refl, subst}
use Rattle.words.specs.Process.{process_word}
use Rattle.words.specs.LockWord.{owner_of}
use Rattle.isa.specs.Programs.{Program}
use Rattle.robustexit.specs.declared.phase.ExitPhase.{ExitPhase}
use Rattle.robustexit.specs.declared.phase.ExitPhase.TheVariants.{Entry, Pending, ClearId, LastWake, Ended}
use Rattle.locals.specs.Threads.{Thread}
use Rattle.locals.specs.Looks.{Request, AskLoad, AskStore, AskSwap, AskCompareSwap, AskOr, AskAdd, AskFork, AskPrint}
use Rattle.locals.specs.Looks.{AskWait, AskWake, AskRequeue, AskReturn, AskReturnValue, AskFault, Look, Goes}
use Rattle.locals.specs.Looks.{Asks, Leaves, Breaks, Rests, look}
use Rattle.machine.specs.declared.event.Event.{Event}
use Rattle.machine.specs.declared.event.StepFault.{StepFault}
use Rattle.machine.specs.declared.event.StepFault.TheVariants.{Broken}
use Rattle.machine.specs.Runs.{Own}
use Rattle.machine.specs.States.{Common, ConcreteState, thread_of}
use Rattle.machine.specs.ConcreteServing.{Served, serve, load}
use Rattle.machine.specs.ConcreteExits.{Left, leave, is_entry}
use Rattle.machine.specs.ConcreteSteps.{Stepped, thread_step, go_on_with, on_machine, step_awake, step_thread}
use Rattle.machine.specs.ConcreteSteps.{step_of}
use Rattle.machine.specs.ConcretePieces.{is_piece}
use Rattle.machine.specs.FrontRuns.{doing_of}
use Rattle.robustexit.specs.declared.rule.ExitRule.{ExitRule}
use Rattle.robustexit.specs.ExitRules.{wakes}

-- an event of a thread's own step, which is none of a piece
abbrev IsOwn : Event → Type 0
IsOwn e = (doing_of e.name e.value ≡ Own) × (is_piece e.name ≡ false)

Serves : Result Served StepFault → Type 0
Serves (Ok x) = IsOwn x.event
Serves (Err f) = Unit {0}

serves_if : (b : Bool) (r s : Result Served StepFault) → Serves r → Serves s → Serves (cond b r s)
serves_if true r s h g = h
serves_if false r s h g = g

serves_ok : (x : Served) → IsOwn x.event → Serves (Ok x)
unfolding Serves
serves_ok x h = h

serves_err : (f : StepFault) → Serves (Err f)
unfolding Serves
serves_err f = tt

served : (made t : ℕ) (r : Request) (c : Common) → Serves (serve made t r c)
served made t (AskLoad a) c = serves_if _ _ _ (serves_ok _ (refl, refl)) (serves_err _)
served made t (AskStore a v) c = serves_if _ _ _ (serves_ok _ (refl, refl)) (serves_err _)
served made t (AskSwap a v) c = serves_if _ _ _ (serves_ok _ (refl, refl)) (serves_err _)
served made t (AskCompareSwap a expected new) c = serves_if _ _ _ (serves_ok _ (refl, refl)) (serves_err _)
served made t (AskOr a v) c = serves_if _ _ _ (serves_ok _ (refl, refl)) (serves_err _)
served made t (AskAdd a v) c = serves_if _ _ _ (serves_ok _ (refl, refl)) (serves_err _)
served made t (AskFork entry arguments has_room) c =
    serves_if (eqb made c.most) _ _ (serves_ok _ (refl, refl)) (serves_if has_room _ _ (serves_ok _ (refl, refl)) (serves_err Broken))
served made t (AskPrint number) c = serves_ok _ (refl, refl)
served made t (AskWait a expected) c =
    serves_if _ _ _ (serves_if _ _ _ (serves_ok _ (refl, refl)) (serves_ok _ (refl, refl))) (serves_err _)
served made t (AskWake a n) c = serves_if _ _ _ (serves_ok _ (refl, refl)) (serves_err _)
served made t (AskRequeue a b n m expected) c =
    serves_if (ltb a (length c.words)) _ _
    (serves_if (ltb b (length c.words)) _ _
    (serves_if (eqb (load c a) expected) _ _ (serves_ok _ (refl, refl)) (serves_ok _ (refl, refl))) (serves_err Broken))
    (serves_err Broken)
served made t AskReturn c = serves_ok _ (refl, refl)
served made t (AskReturnValue v) c = serves_ok _ (refl, refl)
served made t (AskFault cause) c = serves_ok _ (refl, refl)

Exits : Left → Type 0
Exits l = IsOwn l.event

exits_if : (b : Bool) (l m : Left) → Exits l → Exits m → Exits (cond b l m)
exits_if true l m h g = h
exits_if false l m h g = g

exits_so : (l : Left) → IsOwn l.event → Exits l
unfolding Exits
exits_so l h = h

left : (rule : ExitRule) (t : ℕ) (phase : ExitPhase) (c : Common) → Exits (leave rule t phase c)
left rule t (Entry e seen) c =
    exits_if (not (is_entry c e.0)) _ _ (exits_so _ (refl, refl))
    (exits_if (eqb (load c (process_word t 1)) e.0 || not (eqb (owner_of (load c (e.0 + 1))) t)) _ _
    (exits_so _ (refl, refl)) (exits_so _ (refl, refl)))
left rule t Pending c =
    let e : ℕ = load c (process_word t 1) in
    exits_if (not (is_entry c e)) _ _ (exits_so _ (refl, refl))
    (exits_if (eqb (owner_of (load c (e + 1))) t) _ _ (exits_so _ (refl, refl))
    (exits_if (wakes rule (load c (e + 1))) _ _ (exits_so _ (refl, refl)) (exits_so _ (refl, refl))))
left rule t ClearId c = exits_so _ (refl, refl)
left rule t LastWake c = exits_so _ (refl, refl)
left rule t Ended c = exits_so _ (refl, refl)

Steps : Result Stepped StepFault → Type 0
Steps (Ok x) = IsOwn x.event
Steps (Err f) = Unit {0}

went : (go : ℕ → Thread) (r : Result Served StepFault) → Serves r → Steps (go_on_with go r)
unfolding Serves Steps
went go (Ok x) h = h
went go (Err f) h = tt

stepped : (rule : ExitRule) (made t : ℕ) (c : Common) (l : Look) → Steps (thread_step rule made t c l)
unfolding Steps Exits
stepped rule made t c (Goes x) = (refl, refl)
stepped rule made t c (Asks request go) = went go _ (served made t request c)
stepped rule made t c (Leaves phase) = left rule t phase c
stepped rule made t c Breaks = tt
stepped rule made t c Rests = tt

Moves : Result (ConcreteState × Event) StepFault → Type 0
Moves (Ok q) = IsOwn q.1
Moves (Err f) = Unit {0}

moves : (k : ConcreteState) (t : ℕ) (r : Result Stepped StepFault) → Steps r → Moves (on_machine k t r)
unfolding Steps Moves
moves k t (Ok x) h = h
moves k t (Err f) h = tt

moves_awake : (p : Program) (k : ConcreteState) (t : ℕ) (x : Thread) (o : Option ℕ) → Moves (step_awake p k t x o)
unfolding Moves
moves_awake p k t x None = moves k t _ (stepped _ (length k.threads) t k.common (look p t x))
moves_awake p k t x (Some a) = tt

moves_thread : (p : Program) (k : ConcreteState) (t : ℕ) (o : Option Thread) → Moves (step_thread p k t o)
unfolding Moves
moves_thread p k t None = tt
moves_thread p k t (Some x) = moves_awake p k t x (k.common.asleep t)

owns : (p : Program) (k k' : ConcreteState) (t : ℕ) (e : Event) → step_of p k t ≡ Ok (k', e) → IsOwn e
unfolding Moves
owns p k k' t e h = subst Moves h (moves_thread p k t (thread_of k t))

-- the event of a thread's own step tells so
pub own_so : (p : Program) (k k' : ConcreteState) (t : ℕ) (e : Event) → step_of p k t ≡ Ok (k', e)
    → doing_of e.name e.value ≡ Own
own_so p k k' t e h = (owns p k k' t e h).0

-- and tells of no piece
pub whole_so : (p : Program) (k k' : ConcreteState) (t : ℕ) (e : Event) → step_of p k t ≡ Ok (k', e)
    → is_piece e.name ≡ false
whole_so p k k' t e h = (owns p k k' t e h).1
