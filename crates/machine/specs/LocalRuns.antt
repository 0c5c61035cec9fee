-- A thread that takes local steps in its place, and the access to a word behind them.
use Rattle.std.specs.Prelude.{ℕ, ◌≡◌, ◌≢◌, ◌≤◌, ◌<◌, ◌-◌, true, Option, Some, None, IfNone, IfSome, MatchOption, slice_set}
use Rattle.isa.specs.Programs.{Program}
use Rattle.robustexit.specs.declared.phase.ExitPhase.TheVariants.{Ended}
use Rattle.locals.specs.declared.access.Access.{Access}
use Rattle.locals.specs.Looks.{look}
use Rattle.locals.specs.Threads.{Thread, Exits}
use Rattle.locals.specs.Steps.{local_step, local_after}
use Rattle.machine.specs.States.{thread_of}
use Rattle.machine.specs.Accessing.{AccessedSo, HasNoAccess, MakesAccess, told_access}
use Rattle.machine.specs.ConcreteSteps.{can_move}
use Rattle.machine.specs.Views.{CommonView, View, concrete}

-- the thread went on by so many local steps, the budget or until another step came, and nothing else changed
pub record RunsOn (old : View) (t budget count : ℕ) (new : View) : Type 0 where
  pub origin : Thread
  pub here : Thread
  pub stands : thread_of (concrete old) t ≡ Some origin
  pub goes : local_after old.program t count origin ≡ Some here
  pub within : count ≤ budget
  pub whole : count < budget → local_step old.program t here ≡ None
  pub after : new ≡ record old { threads = slice_set old.threads (t - 1) here }

-- the same of a thread by itself, on what is shared, with the access that it made behind its local steps, if it made one
pub record WalkedSo (p : Program) (t budget : ℕ) (c c' : CommonView) (x x' : Thread) (count : ℕ) (made : Option Access) : Type 0 where
  pub here : Thread
  pub goes : local_after p t count x ≡ Some here
  pub within : count ≤ budget
  pub whole : count < budget → local_step p t here ≡ None
  pub lives : x ≢ Exits Ended → here ≢ Exits Ended
  pub did : AccessedSo made (look p t here) c c' x'
  pub none : IfNone made ((x' ≡ here) × (c' ≡ c))
  pub after : IfSome made (λ told. x' ≢ Exits Ended)

-- the thread went on so, and then made the access to a word that came next, or none did, and nothing else changed
pub record WalksOn (old : View) (t budget count : ℕ) (access : Option Access) (new : View) : Type 0 where
  pub mid : View
  pub runs : RunsOn old t budget count mid
  pub moves : can_move (concrete mid) t ≡ true
  pub made : MatchOption access ((new ≡ mid) × HasNoAccess mid t) (λ told. MakesAccess mid t (told_access told) new)
