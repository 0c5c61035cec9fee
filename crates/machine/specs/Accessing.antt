-- A thread that makes an access to a word in its place.
use Rattle.std.specs.Prelude.{ℕ, ◌≡◌, ◌-◌, true, Option, Some, None, slice_set}
use Rattle.locals.specs.declared.access.Access.{Access}
use Rattle.locals.specs.declared.access.AccessKind.{AccessKind}
use Rattle.locals.specs.declared.access.AccessKind.TheVariants as kind
use Rattle.locals.specs.Accesses.{Accessing, accessing}
use Rattle.locals.specs.Looks.{Look, look}
use Rattle.locals.specs.Threads.{Thread}
use Rattle.machine.specs.declared.event.Event.{Event}
use Rattle.machine.specs.declared.event.EventName.{EventName}
use Rattle.machine.specs.declared.event.EventName.TheVariants as name
use Rattle.machine.specs.ConcreteServing.{plain}
use Rattle.machine.specs.ConcreteSteps.{can_move}
use Rattle.machine.specs.States.{thread_of}
use Rattle.machine.specs.Views.{CommonView, View, concrete}

-- how an access is told
abbrev pub access_name : AccessKind → EventName
access_name kind.Load = name.Load
access_name kind.Store = name.Store
access_name kind.Swap = name.Swap
access_name kind.CompareSwap = name.CompareSwap
access_name kind.FetchOr = name.FetchOr
access_name kind.FetchAdd = name.FetchAdd

abbrev pub told_access : Access → Event
told_access a = plain (access_name a.kind) a.value

abbrev pub access_event : Accessing → Event
access_event a = told_access a.told

-- a thread that looks so made an access on what is shared, or none since its next step is none
pub record DidAccess (l : Look) (old new : CommonView) (x : Thread) (event : Event) : Type 0 where
  pub access : Accessing
  pub makes : accessing l old.words ≡ Some access
  pub told : event ≡ access_event access
  pub after : new ≡ record old { words = access.words }
  pub goes : x ≡ access.thread

abbrev pub AccessedSo : Option Access → Look → CommonView → CommonView → Thread → Type 0
AccessedSo (Some told) l old new x = DidAccess l old new x (told_access told)
AccessedSo None l old new x = accessing l old.words ≡ None

-- thread t made the access to a word that was its next step, which is told so, and nothing else changed
pub record MakesAccess (old : View) (t : ℕ) (event : Event) (new : View) : Type 0 where
  pub origin : Thread
  pub stands : thread_of (concrete old) t ≡ Some origin
  pub access : Accessing
  pub makes : accessing (look old.program t origin) old.words ≡ Some access
  pub told : event ≡ access_event access
  pub after : new ≡ record old { words = access.words; threads = slice_set old.threads (t - 1) access.thread }

-- the next step of thread t is no access to a word of the memory
abbrev pub HasNoAccess : View → ℕ → Type 0
HasNoAccess v t = (x : Thread) → thread_of (concrete v) t ≡ Some x → accessing (look v.program t x) v.words ≡ None

-- a machine whose thread t has come to this state
abbrev pub placed : View → ℕ → Thread → View
placed v t x = record v { threads = slice_set v.threads (t - 1) x }

-- thread t, if it could go to this state and can move there, made the access to a word that was its next step there, and
-- stands where that led, as the state does; or its next step there is none, and nothing has changed
pub record MadeFrom (told : Access) (old : View) (t : ℕ) (here : Thread) (new : View) (there : Thread) : Type 0 where
  pub moved : can_move (concrete (placed old t here)) t ≡ true
  pub made : MakesAccess (placed old t here) t (told_access told) new
  pub stands : thread_of (concrete new) t ≡ Some there
  pub moves : can_move (concrete new) t ≡ true

abbrev pub AccessesFrom : Option Access → View → ℕ → Thread → View → Thread → Type 0
AccessesFrom None old t here new there =
    (new ≡ old) × (there ≡ here) × (accessing (look old.program t here) old.words ≡ None)
AccessesFrom (Some told) old t here new there = MadeFrom told old t here new there
