-- The machine with pieces as functions: what it keeps, and the one step that each thread has. A wake and a move take from
-- the front of the address's list, so that a step is determined.
use Rattle.std.specs.Prelude.{ℕ, ◌+◌, ◌-◌, ◌%◌, ◌==◌, ◌&&◌, Bool, false, not, nat_lt, is_some, if◌then◌else◌}
use Rattle.std.specs.Prelude.{List, [], ◌∷◌, length, slice_set, Option, Some, None, Result, Ok, Err}
use Rattle.words.specs.LockWord.{owner_of, waiters_of}
use Rattle.words.specs.Process.{process_word}
use Rattle.words.specs.Updates.{put}
use Rattle.isa.specs.Programs.{Program}
use Rattle.buckets.specs.Places.{with_place}
use Rattle.futexcalls.specs.declared.pieces.FutexCall.{FutexCall}
use Rattle.futexcalls.specs.declared.pieces.FutexCall.TheVariants.{Wait, Wake, Requeue}
use Rattle.futexcalls.specs.declared.pieces.FutexPhase.{FutexPhase}
use Rattle.futexcalls.specs.declared.pieces.FutexPhase.TheVariants.{First, Second, Compare, Act}
use Rattle.futexcalls.specs.Pieces.{buckets_of, takes_at, after_lock, again_of}
use Rattle.futexcalls.specs.PieceResults.{woken_by, moved_by, queue_by}
use Rattle.robustexit.specs.declared.phase.ExitPhase.{ExitPhase}
use Rattle.robustexit.specs.declared.phase.ExitPhase.TheVariants.{Entry, Pending, ClearId, LastWake, Ended}
use Rattle.locals.specs.Threads.{Thread}
use Rattle.locals.specs.Looks.{Look, Goes, Asks, Leaves, Breaks, Rests, look}
use Rattle.machine.specs.declared.event.Event.{Event}
use Rattle.machine.specs.declared.event.EventName.TheVariants as name
use Rattle.machine.specs.declared.event.StepFault.{StepFault}
use Rattle.machine.specs.declared.event.StepFault.TheVariants.{CannotMove, Broken}
use Rattle.machine.specs.States.{Common, ConcreteState, thread_of, state_of, opening_concrete}
use Rattle.machine.specs.ConcreteServing.{event_of, plain, load}
use Rattle.machine.specs.ConcreteExits.{is_entry}
use Rattle.machine.specs.ConcreteSteps.{step_of, can_move, put_thread, fault_of}
use Rattle.machine.specs.ConcreteOutside.{stray_of, kill_of}
use Rattle.machine.specs.ConcretePieces.{call_name}
use Rattle.machine.specs.PieceStates.{PieceState, call_of, held}
use Rattle.robustexit.specs.declared.rule.ExitRule.{ExitRule}
use Rattle.robustexit.specs.ExitRules.{exit_of, wakes}

-- what a machine keeps; the phase of each thread, which is the first for a thread outside calls; the holder of each
-- bucket, if it has one; and how many buckets there are
pub record PieceConcrete : Type 0 where
  pub concrete : ConcreteState
  pub phase : ℕ → FutexPhase
  pub holder : ℕ → Option ℕ
  pub buckets : ℕ

-- the state that it stands for
abbrev pub pieces_at : PieceConcrete → PieceState
pieces_at k =
    record { base = state_of k.concrete; phase = k.phase; holder = k.holder; buckets = k.buckets }

-- at the start of a program, over so many buckets
abbrev pub opening_at : Program → ℕ → PieceConcrete
opening_at p n = record {
  concrete = opening_concrete p;
  phase = λ t. First;
  holder = λ b. None;
  buckets = n;
}

-- what comes of a step, and of what comes from outside
abbrev pub Outcome : Type 0
Outcome = Result (PieceConcrete × Event) StepFault

-- whether the words of a call lie in a memory of this size
abbrev pub lies_in : ℕ → FutexCall → Bool
lies_in size (Wait a expected) = nat_lt a.0 size
lies_in size (Wake a wakes) = nat_lt a.0 size
lies_in size (Requeue a b wakes moves expected) = nat_lt a.0 size && nat_lt b.0 size

-- the word on which the step of thread t's exit wakes, should anybody sleep there
abbrev pub entry_word : Common → ℕ → ℕ → Option ℕ
entry_word c t e =
    if is_entry c e && not (load c (process_word t 1) == e) && (owner_of (load c (e + 1)) == t)
    && waiters_of (load c (e + 1)) then Some (e + 1) else None

abbrev pub pending_word : ExitRule → Common → ℕ → ℕ → Option ℕ
pending_word rule c t e =
    if is_entry c e && (if owner_of (load c (e + 1)) == t then waiters_of (load c (e + 1))
    else wakes rule (load c (e + 1))) then Some (e + 1) else None

abbrev pub word_left : ExitRule → Common → ℕ → ExitPhase → Option ℕ
word_left rule c t (Entry e seen) = entry_word c t e.0
word_left rule c t Pending = pending_word rule c t (load c (process_word t 1))
word_left rule c t ClearId = None
word_left rule c t LastWake = Some (process_word t 2)
word_left rule c t Ended = None

-- the bucket of a word
abbrev pub bucket_of : ℕ → Option ℕ → Option ℕ
bucket_of n None = None
bucket_of n (Some a) = Some (a % n)

-- the bucket that a call wants in the phase of its thread
abbrev pub wanted_by : PieceConcrete → ℕ → Option FutexCall → Option ℕ
wanted_by k t None = None
wanted_by k t (Some call) =
    if lies_in (length k.concrete.common.words) call then takes_at k.buckets (k.phase t) call else None

-- the bucket that has to be free for the next step of a thread that looks so
abbrev pub wanted : ExitRule → PieceConcrete → ℕ → Look → Option ℕ
wanted rule k t (Asks request go) = wanted_by k t (call_of request)
wanted rule k t (Leaves phase) = bucket_of k.buckets (word_left rule k.concrete.common t phase)
wanted rule k t (Goes x) = None
wanted rule k t Breaks = None
wanted rule k t Rests = None

abbrev pub is_held : PieceConcrete → Option ℕ → Bool
is_held k None = false
is_held k (Some b) = is_some (k.holder b)

-- whether a held bucket is in the way of a thread
abbrev pub is_blocked : Program → PieceConcrete → ℕ → Option Thread → Bool
is_blocked p k t None = false
is_blocked p k t (Some x) = is_held k (wanted (exit_of p.version) k t (look p t x))

-- whether thread t can take a step
abbrev pub can_take : Program → PieceConcrete → ℕ → Bool
can_take p k t = can_move k.concrete t && not (is_blocked p k t (thread_of k.concrete t))

-- a step that is none of a call, and changes no phase and no holder
abbrev pub whole_at : PieceConcrete → Result (ConcreteState × Event) StepFault → Outcome
whole_at k (Ok r) = Ok (record k { concrete = r.0 }, r.1)
whole_at k (Err fault) = Err fault

-- thread t takes a bucket, unless a thread holds it
abbrev pub lock_at : PieceConcrete → ℕ → FutexPhase → ℕ → Option ℕ → Outcome
lock_at k t next b None = Ok (
  record k { phase = put k.phase t next; holder = put k.holder b (Some t) },
  plain name.FutexLock b,
)
lock_at k t next b (Some u) = Err CannotMove

abbrev pub take_at : PieceConcrete → ℕ → FutexPhase → Option ℕ → Outcome
take_at k t next None = Err CannotMove
take_at k t next (Some b) = lock_at k t next b (k.holder b)

-- the call of thread t is over: it goes on with the answer, and has given its buckets up
abbrev pub over_at : PieceConcrete → ℕ → FutexCall → (ℕ → Thread) → Common → ℕ → PieceConcrete
over_at k t call go c answer = record k {
  concrete = record { common = c; threads = slice_set k.concrete.threads (t - 1) (go answer) };
  phase = put k.phase t First;
  holder = with_place k.holder (buckets_of k.buckets call) None;
}

abbrev pub over : PieceConcrete → ℕ → FutexCall → (ℕ → Thread) → Common → ℕ → List ℕ → List ℕ → Outcome
over k t call go c answer woken moved =
    Ok (over_at k t call go c answer, event_of (call_name call) answer woken moved)

-- the word is compared
abbrev pub compare_word : PieceConcrete → ℕ → FutexCall → (ℕ → Thread) → ℕ → ℕ → Outcome
compare_word k t call go a expected =
    if load k.concrete.common a == expected
    then Ok (record k { phase = put k.phase t Act }, plain name.FutexCompare expected)
    else over k t call go k.concrete.common (again_of call) [] []

abbrev pub compare_at : PieceConcrete → ℕ → FutexCall → (ℕ → Thread) → Outcome
compare_at k t (Wait a expected) go = compare_word k t (Wait a expected) go a.0 expected
compare_at k t (Wake a wakes) go = Err CannotMove
compare_at k t (Requeue a b wakes moves expected) go =
    compare_word k t (Requeue a b wakes moves expected) go a.0 expected

-- where each thread sleeps behind an act
abbrev pub places_by : ℕ → FutexCall → (ℕ → List ℕ) → (ℕ → Option ℕ) → ℕ → Option ℕ
places_by t (Wait a expected) q asleep = with_place asleep (t ∷ []) (Some a.0)
places_by t (Wake a wakes) q asleep = with_place asleep (woken_by (Wake a wakes) q) None
places_by t (Requeue a b wakes moves expected) q asleep =
    with_place (with_place asleep (woken_by (Requeue a b wakes moves expected) q) None)
    (moved_by (Requeue a b wakes moves expected) q) (Some b.0)

-- what is shared behind the act of thread t's call
abbrev pub acted : ℕ → FutexCall → Common → Common
acted t call c =
    record c { queue = queue_by t call c.queue; asleep = places_by t call c.queue c.asleep }

abbrev pub act_at : PieceConcrete → ℕ → FutexCall → (ℕ → Thread) → Outcome
act_at k t call go =
    let c = k.concrete.common in
    over k t call go (acted t call c) (length (woken_by call c.queue) + length (moved_by call c.queue))
    (woken_by call c.queue) (moved_by call c.queue)

-- the piece of a call in this phase
abbrev pub piece_at : PieceConcrete → ℕ → FutexCall → (ℕ → Thread) → FutexPhase → Outcome
piece_at k t call go First = take_at k t (after_lock k.buckets First call) (takes_at k.buckets First call)
piece_at k t call go Second = take_at k t (after_lock k.buckets Second call) (takes_at k.buckets Second call)
piece_at k t call go Compare = compare_at k t call go
piece_at k t call go Act = act_at k t call go

-- a step of a thread that makes this call, if it makes one
abbrev pub call_step : Program → PieceConcrete → ℕ → (ℕ → Thread) → Option FutexCall → Outcome
call_step p k t go None = whole_at k (step_of p k.concrete t)
call_step p k t go (Some call) =
    if lies_in (length k.concrete.common.words) call then piece_at k t call go (k.phase t) else Err Broken

-- a step of a thread that looks so and is awake
abbrev pub look_step : Program → PieceConcrete → ℕ → Look → Outcome
look_step p k t (Asks request go) = call_step p k t go (call_of request)
look_step p k t (Goes x) = whole_at k (step_of p k.concrete t)
look_step p k t (Leaves phase) =
    if is_held k (wanted (exit_of p.version) k t (Leaves phase)) then Err CannotMove
    else whole_at k (step_of p k.concrete t)
look_step p k t Breaks = whole_at k (step_of p k.concrete t)
look_step p k t Rests = whole_at k (step_of p k.concrete t)

-- a thread that sleeps can't move
abbrev pub awake_step : Program → PieceConcrete → ℕ → Thread → Option ℕ → Outcome
awake_step p k t x None = look_step p k t (look p t x)
awake_step p k t x (Some a) = Err CannotMove

abbrev pub thread_step : Program → PieceConcrete → ℕ → Option Thread → Outcome
thread_step p k t None = Err CannotMove
thread_step p k t (Some x) = awake_step p k t x (k.concrete.common.asleep t)

-- one step of thread t
abbrev pub piece_of : Program → PieceConcrete → ℕ → Outcome
piece_of p k t = thread_step p k t (thread_of k.concrete t)

-- the machine with thread t changed
abbrev pub with_local : PieceConcrete → ℕ → Thread → PieceConcrete
with_local k t x = record k { concrete = put_thread k.concrete t x }

-- what the step of thread t would be refused for after it went on to x
abbrev pub piece_fault_at : Program → PieceConcrete → ℕ → Thread → Option StepFault
piece_fault_at p k t x = fault_of (piece_of p (with_local k t x) t)

-- a wake of thread t from outside
abbrev pub stray_piece : PieceConcrete → ℕ → Outcome
stray_piece k t = whole_at k (stray_of k.concrete t)

-- thread t stands outside calls, and holds no bucket
abbrev pub killed : Program → PieceConcrete → ℕ → ConcreteState → PieceConcrete
killed p k t c = record k {
  concrete = c;
  phase = put k.phase t First;
  holder = with_place k.holder (held p (pieces_at k) t) None;
}

-- a kill of thread t from outside
abbrev pub killed_at : Program → PieceConcrete → ℕ → Result (ConcreteState × Event) StepFault → Outcome
killed_at p k t (Ok r) = Ok (killed p k t r.0, r.1)
killed_at p k t (Err fault) = Err fault

abbrev pub kill_piece : Program → PieceConcrete → ℕ → Outcome
kill_piece p k t = killed_at p k t (kill_of k.concrete t)
