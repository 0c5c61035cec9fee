-- A thread that goes on ahead of the machine, and what comes of its accesses, which come in together.
use Rattle.std.specs.Prelude.{ℕ, suc, ◌≡◌, ◌≤◌, ◌<◌, ◌+◌, ◌*◌, ◌++◌, List, [], ◌∷◌, Some, None, length, slice_get, true}
use Rattle.std.specs.List.{sum_by}
use Rattle.words.specs.Limits.{most_local_steps}
use Rattle.isa.specs.Programs.{Program}
use Rattle.locals.specs.declared.access.Access.{Access}
use Rattle.locals.specs.Accesses.{accessing}
use Rattle.locals.specs.Looks.{Look, look}
use Rattle.locals.specs.Steps.{local_after, local_step}
use Rattle.locals.specs.Threads.{Thread}
use Rattle.machine.specs.declared.event.Entry.{Entry}
use Rattle.machine.specs.declared.speculation.SpeculativeAccess.{SpeculativeAccess}
use Rattle.machine.specs.Accessing.{told_access}
use Rattle.machine.specs.ConcreteSteps.{can_move}
use Rattle.machine.specs.Speculation.{Finds, FindsAll, SpeculatesAll, word_put}
use Rattle.machine.specs.States.{thread_of}
use Rattle.runner.specs.Entries.{Takes}
use Rattle.runner.specs.Logs.{cost}
use Rattle.runner.specs.Views.{PieceView, LogState, SharedView, log_state}

-- so many accesses of a thread come in together at most
abbrev pub most_accesses : ℕ
most_accesses = 64

-- a thread ahead of the machine: where it began, the accesses that it made since, and where it has come after so many local
-- steps behind the last one
pub record SpeculationView : Type 0 where
  pub thread : ℕ
  pub origin : Thread
  pub made : List SpeculativeAccess
  pub count : ℕ
  pub here : Thread

-- they led it there
pub record HasCome (p : Program) (t : ℕ) (origin : Thread) (made : List SpeculativeAccess) (count : ℕ) (here : Thread)
    : Type 0 where
  pub last : Thread
  pub all : SpeculatesAll p t origin made last
  pub goes : local_after p t count last ≡ Some here

-- one that begins at a state of a thread
abbrev pub speculation_at : ℕ → Thread → SpeculationView
speculation_at t x = record { thread = t; origin = x; made = []; count = 0; here = x }

-- what comes next is this access wherever its word is there, and leads to the state
abbrev pub IsAccess : Look → SpeculativeAccess → Thread → Type 0
IsAccess l a y = (words : List ℕ) → Finds a words
    → accessing l words ≡ Some (record { told = a.access; words = word_put a words; thread = y })

-- local steps led it to an access behind those before, which it made on these words, and left those
pub record MakesOne (p : Program) (old : SpeculationView) (words : List ℕ) (new : SpeculationView) (words' : List ℕ)
    : Type 0 where
  pub more : ℕ
  pub before : Thread
  pub access : Access
  pub after : ℕ
  pub goes : local_after p old.thread more old.here ≡ Some before
  pub makes : accessing (look p old.thread before) words
      ≡ Some (record { told = access; words = words'; thread = new.here })
  pub leaves : slice_get words' access.address.0 ≡ Some after
  pub made : new.made ≡ old.made ++ record { local = old.count + more; access = access; after = after } ∷ []

-- there are as many as come in together, and nothing has changed
abbrev pub IsFull : SpeculationView → SpeculationView → Type 0
IsFull old new = (most_accesses ≤ length old.made) × (new ≡ old)

-- no access to one of these words comes next; and unless a turn of local steps is over, no local step does
pub record HasNoneLeft (p : Program) (s : SpeculationView) (words : List ℕ) : Type 0 where
  pub none : accessing (look p s.thread s.here) words ≡ None
  pub whole : s.count < most_local_steps → local_step p s.thread s.here ≡ None

-- the entry of an access, and those of several
abbrev pub access_entry : ℕ → SpeculativeAccess → Entry
access_entry t a = record { thread = t; local = a.local; event = Some (told_access a.access) }

abbrev pub access_entries : ℕ → List SpeculativeAccess → List Entry
access_entries t [] = []
access_entries t (a ∷ rest) = access_entry t a ∷ access_entries t rest

-- their steps
abbrev pub access_cost : List SpeculativeAccess → ℕ
access_cost made = sum_by (λ a. a.local + 1) made

-- so many steps they are, a turn of local ones before each at most; and so many accesses come in together at most
pub record IsPriced (made : List SpeculativeAccess) (count cost : ℕ) : Type 0 where
  pub cost_is : cost ≡ access_cost made
  pub turn : count ≤ most_local_steps
  pub few : length made ≤ most_accesses
  pub bound : cost ≤ length made * suc most_local_steps

-- they came in, one after the other, each as a piece
abbrev pub TakesAll : Program → ℕ → LogState → ℕ → List SpeculativeAccess → LogState → Type 0
TakesAll p limit old t [] new = new ≡ old
TakesAll p limit old t (a ∷ rest) new =
    (piece : PieceView) × (mid : LogState) × (piece.count ≡ a.local) × Takes p limit old t piece mid
    × TakesAll p limit mid t rest new

-- they are thread t's, which stands where they began, and have room within the limit
pub record IsAtHand (limit : ℕ) (s : SharedView) (t : ℕ) (a : SpeculationView) : Type 0 where
  pub thread : a.thread ≡ t
  pub stands : thread_of (log_state s).concrete.concrete t ≡ Some a.origin
  pub moves : can_move (log_state s).concrete.concrete t ≡ true
  pub whole : a.count ≡ 0
  pub within : cost s.log + access_cost a.made ≤ limit

-- they can come in: each finds its word
abbrev pub IsReady : ℕ → SharedView → ℕ → SpeculationView → Type 0
IsReady limit s t a = IsAtHand limit s t a × FindsAll a.made s.machine.view.words

-- thread t stands at a state, and can move
abbrev pub Goes : SharedView → ℕ → Thread → Type 0
Goes s t x = (thread_of (log_state s).concrete.concrete t ≡ Some x) × (can_move (log_state s).concrete.concrete t ≡ true)
