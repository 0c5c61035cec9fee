-- What the rounds of a run keep.
use Rattle.std.specs.Prelude.{ℕ, suc, ◌≡◌, ◌≢◌, ◌+◌, ◌<◌, ◌≤◌, ◌⊎◌, true, false, Bool, List, [], ◌∷◌, slice_get}
use Rattle.std.specs.Prelude.{Option, Some, None, Err}
use Rattle.words.specs.Limits.{most_threads, most_local_steps}
use Rattle.isa.specs.Programs.{Program}
use Rattle.locals.specs.Threads.{Thread}
use Rattle.locals.specs.Steps.{local_step, local_after}
use Rattle.machine.specs.declared.event.Entry.{Entry}
use Rattle.machine.specs.declared.event.StepFault.TheVariants as step
use Rattle.machine.specs.States.{ConcreteState, state_of, thread_of}
use Rattle.machine.specs.ConcreteSteps.{can_move}
use Rattle.piece_machine.specs.PieceConcrete.{PieceConcrete}
use Rattle.runner.specs.declared.drawing.Drawn.{Drawn}
use Rattle.runner.specs.declared.drawing.Drawn.TheVariants.{Living, Mover, Sleeper}
use Rattle.runner.specs.Logs.{Outside, cost, kills_in}
use Rattle.runner.specs.Views.{LogState}
use Rattle.runner.specs.Entries.{entry_end}
use Rattle.runner.specs.Reports.{IsStopped}

-- what comes behind local steps costs one step, where it is no local one
abbrev pub step_cost : Option Thread → ℕ
step_cost (Some x) = 0
step_cost None = 1

-- the next entry of a thread that can move may be, and would pass the limit, whatever bucket is held
pub record IsPast (p : Program) (limit : ℕ) (log : List Entry) (k : PieceConcrete) (t : ℕ) : Type 0 where
  pub count : ℕ
  pub origin : Thread
  pub here : Thread
  pub moves : can_move k.concrete t ≡ true
  pub stands : thread_of k.concrete t ≡ Some origin
  pub goes : local_after p t count origin ≡ Some here
  pub turn : count ≤ most_local_steps
  pub whole : count < most_local_steps → local_step p t here ≡ None
  pub may_be : entry_end p k t here ≡ Err step.Broken → ⊥
  pub past : limit < cost log + (count + step_cost (local_step p t here))

-- each thread that was refused is past the limit
abbrev pub AllPast : Program → ℕ → LogState → List Bool → Type 0
AllPast p limit h refused = (t : ℕ) → slice_get refused t ≡ Some true → IsPast p limit h.log h.concrete t

-- no thread can make its next entry
abbrev pub Idle : Program → ℕ → LogState → Type 0
Idle p limit h = (t : ℕ) → can_move h.concrete.concrete t ≡ true → IsStopped p limit h.log h.concrete t

-- the log is longer, and within the limit
abbrev pub HasGrown : ℕ → LogState → LogState → Type 0
HasGrown limit old new = (cost old.log < cost new.log) × (cost new.log ≤ limit)

-- what a try to make the next entry of thread t came to: one was made, or nothing has changed and it can make none
abbrev pub HasTurned : Bool → Program → ℕ → LogState → LogState → ℕ → Type 0
HasTurned true p limit old new t = HasGrown limit old new
HasTurned false p limit old new t =
    (new ≡ old) × (can_move new.concrete.concrete t ≡ true → IsStopped p limit new.log new.concrete t)

-- where no entry was made since the log had this cost, the threads before this number can make none
abbrev pub AreTried : Program → ℕ → ℕ → LogState → ℕ → Type 0
AreTried p limit before h to = (before ≤ cost h.log) × (before ≡ cost h.log
    → (t : ℕ) → t < to → can_move h.concrete.concrete t ≡ true → IsStopped p limit h.log h.concrete t)

-- whose turn it is then: a thread that can move, of those before which that holds, or nobody's, as none can make an entry
abbrev pub IsTurn : Program → ℕ → ℕ → LogState → Option ℕ → Type 0
IsTurn p limit before h None = Idle p limit h
IsTurn p limit before h (Some t) =
    (0 < t) × (t ≤ most_threads) × (can_move h.concrete.concrete t ≡ true) × AreTried p limit before h t

-- no thread that was passed over can make its next entry
abbrev pub AllStopped : Program → ℕ → LogState → List Bool → Type 0
AllStopped p limit h passed = (t : ℕ) → slice_get passed t ≡ Some true → IsStopped p limit h.log h.concrete t

-- nobody is passed over
abbrev pub NobodyPassed : List Bool → Type 0
NobodyPassed passed = (t : ℕ) → slice_get passed t ≢ Some true

-- a thread that can move, wasn't refused, and isn't passed over
abbrev pub IsPickable : ConcreteState → List Bool → List Bool → ℕ → Type 0
IsPickable k refused passed t =
    (can_move k t ≡ true) × (slice_get refused t ≡ Some false) × (slice_get passed t ≡ Some false)

-- such a thread, by its number
abbrev pub IsDrawn : ConcreteState → List Bool → List Bool → ℕ → Type 0
IsDrawn k refused passed t = IsPickable k refused passed t × (0 < t) × (t ≤ most_threads)

-- a thread that sleeps
abbrev pub IsAsleep : ConcreteState → ℕ → Type 0
IsAsleep k t = (state_of k).asleep t ≢ None

-- a thread that was made, and wasn't refused
abbrev pub IsUnrefused : ConcreteState → List Bool → ℕ → Type 0
IsUnrefused k refused t = (thread_of k t ≢ None) × (slice_get refused t ≡ Some false)

-- what may be drawn: a thread that can move, wasn't refused and isn't passed over; or, where the limit leaves room for a
-- step more, one that sleeps, where there may be wakes from outside, and one that was made and wasn't refused, where there
-- may be more kills
abbrev pub MayBeDrawn : Outside → ℕ → LogState → List Bool → List Bool → Drawn → Type 0
MayBeDrawn may limit h refused passed (Mover t) = IsDrawn h.concrete.concrete refused passed t
MayBeDrawn may limit h refused passed (Sleeper t) =
    (may.strays ≡ true) × IsAsleep h.concrete.concrete t × (cost h.log < limit)
MayBeDrawn may limit h refused passed (Living t) =
    (kills_in h.log < may.kills) × IsUnrefused h.concrete.concrete refused t × (cost h.log < limit)

-- how many aren't passed over
abbrev pub left : List Bool → ℕ
left [] = 0
left (true ∷ xs) = left xs
left (false ∷ xs) = suc (left xs)

-- each thread that can move was refused, or is passed over
abbrev pub NoneLeft : ConcreteState → List Bool → List Bool → Type 0
NoneLeft k refused passed =
    (t : ℕ) → can_move k t ≡ true → (slice_get refused t ≡ Some true) ⊎ (slice_get passed t ≡ Some true)
