-- Which logs are legal, where they lead, and what they cost.
use Rattle.std.specs.Prelude.{ℕ, ◌≡◌, ◌≤◌, ◌+◌, if◌then◌else◌, ◌⊎◌, List, [], ◌∷◌, Bool, true, false, not, Option, Some, None}
use Rattle.std.specs.Prelude.{Ok}
use Rattle.std.specs.List.{All, sum_by}
use Rattle.words.specs.Limits.{run_buckets}
use Rattle.isa.specs.Programs.{Program}
use Rattle.locals.specs.Threads.{Thread}
use Rattle.locals.specs.Steps.{local_step, local_after}
use Rattle.machine.specs.declared.event.Entry.{Entry}
use Rattle.machine.specs.declared.event.Event.{Event}
use Rattle.machine.specs.States.{thread_of}
use Rattle.machine.specs.ConcreteSteps.{can_move}
use Rattle.machine.specs.FrontRuns.{doing_of}
use Rattle.machine.specs.Runs.{Doing, Own, Strayed, Killed, is_own}
use Rattle.piece_machine.specs.PieceConcrete.{PieceConcrete, opening_at, piece_of, with_local}
use Rattle.piece_machine.specs.PieceFronts.{OutsidePiece}

-- where a run begins: at the program's start, over the buckets that each run has
abbrev pub opening : Program → PieceConcrete
opening p = opening_at p run_buckets

-- the end of an entry: nothing more, or a shared step of the thread with this event
abbrev pub Ends : Program → PieceConcrete → ℕ → Thread → Option Event → PieceConcrete → Type 0
Ends p k t here None k' = k' ≡ k
Ends p k t here (Some event) k' = (local_step p t here ≡ None) × (piece_of p k t ≡ Ok (k', event))

-- the entry is its thread's own: the local steps of a thread that can move, and then its end
pub record EntersOwn (p : Program) (k : PieceConcrete) (e : Entry) (k' : PieceConcrete) : Type 0 where
  pub origin : Thread
  pub here : Thread
  pub stands : thread_of k.concrete e.thread ≡ Some origin
  pub moves : can_move k.concrete e.thread ≡ true
  pub goes : local_after p e.thread e.local origin ≡ Some here
  pub ends : Ends p (with_local k e.thread here) e.thread here e.event k'

-- the entry is a wake from outside of a thread that sleeps, or a kill of one that was made, with no local step before it
pub record EntersOutside (p : Program) (k : PieceConcrete) (e : Entry) (k' : PieceConcrete) : Type 0 where
  pub event : Event
  pub alone : e.local ≡ 0
  pub is : e.event ≡ Some event
  pub gives : OutsidePiece p k e.thread event k'

-- the entry takes the machine from one state to another
abbrev pub Enters : Program → PieceConcrete → Entry → PieceConcrete → Type 0
Enters p k e k' = EntersOwn p k e k' ⊎ EntersOutside p k e k'

-- whether the step that ends an entry came from outside
abbrev pub is_outside : Option Event → Bool
is_outside None = false
is_outside (Some event) = not (is_own (doing_of event.name event.value))

-- whether it was a kill
abbrev pub is_killing : Doing → Bool
is_killing Own = false
is_killing (Strayed a) = false
is_killing (Killed begins) = true

abbrev pub is_kill : Option Event → Bool
is_kill None = false
is_kill (Some event) = is_killing (doing_of event.name event.value)

-- whether it was a wake
abbrev pub is_waking : Doing → Bool
is_waking Own = false
is_waking (Strayed a) = true
is_waking (Killed begins) = false

abbrev pub is_stray : Option Event → Bool
is_stray None = false
is_stray (Some event) = is_waking (doing_of event.name event.value)

-- the entry is its thread's own, by its event
abbrev pub IsOwnEntry : Entry → Type 0
IsOwnEntry e = is_outside e.event ≡ false

-- the entry is no wake from outside
abbrev pub IsUnstrayed : Entry → Type 0
IsUnstrayed e = is_stray e.event ≡ false

-- how many kills a log has
abbrev pub kill_cost : Option Event → ℕ
kill_cost event = if is_kill event then 1 else 0

abbrev pub kills_in : List Entry → ℕ
kills_in es = sum_by (λ e. kill_cost e.event) es

-- what may come from outside in a run: wakes of sleepers, and so many kills at most
pub record Outside : Type 0 where
  pub strays : Bool
  pub kills : ℕ

abbrev pub outside_of : Bool → ℕ → Outside
outside_of strays kills = record { strays = strays; kills = kills }

-- nothing
abbrev pub nothing_outside : Outside
nothing_outside = outside_of false 0

-- a log has no more from outside than may be
pub record HasOnly (may : Outside) (es : List Entry) : Type 0 where
  pub strays : may.strays ≡ false → All IsUnstrayed es
  pub kills : kills_in es ≤ may.kills

-- the entries take the machine from one state to another, one after the other
abbrev pub Runs : Program → PieceConcrete → List Entry → PieceConcrete → Type 0
Runs p k [] k' = k ≡ k'
Runs p k (e ∷ es) k' = (mid : PieceConcrete) × Enters p k e mid × Runs p mid es k'

-- an entry costs its local steps, and one for a shared step
abbrev pub event_cost : Option Event → ℕ
event_cost None = 0
event_cost (Some event) = 1

-- the steps of a log
abbrev pub cost : List Entry → ℕ
cost es = sum_by (λ e. e.local + event_cost e.event) es
