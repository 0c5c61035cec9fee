-- A thread that went on by the local steps of its turn.
use Rattle.std.specs.Prelude.{ℕ, ◌≡◌, ◌≢◌, ◌+◌, ◌<◌, ◌≤◌, ◌++◌, ◌∷◌, [], List, true, Some, None, Result, OnOk, IfOk, IfErr}
use Rattle.words.specs.Limits.{most_local_steps}
use Rattle.isa.specs.Programs.{Program}
use Rattle.locals.specs.Steps.{local_step, local_after}
use Rattle.locals.specs.Threads.{Thread}
use Rattle.machine.specs.ConcreteSteps.{can_move}
use Rattle.machine.specs.States.{thread_of}
use Rattle.machine.specs.declared.event.Entry.{Entry}
use Rattle.piece_machine.specs.PieceConcrete.{PieceConcrete, with_local}
use Rattle.runner.specs.declared.attempt.Attempt.{Attempt}
use Rattle.runner.specs.declared.attempt.Attempt.TheVariants.{Accessed}
use Rattle.runner.specs.declared.fault.RunFault.{RunFault}
use Rattle.runner.specs.declared.fault.RunFault.TheVariants.{Stray, Limit, CannotMove, Broken, Memory}
use Rattle.runner.specs.Attempts.{is_made}
use Rattle.runner.specs.Entries.{BreaksAfter}
use Rattle.runner.specs.Logs.{EntersOwn, event_cost}
use Rattle.runner.specs.Reports.{IsHeldUp, IsNextEntry}

-- the local steps of a turn lead from one state of the thread to another, until another step comes or the turn is over
pub record Turns (p : Program) (t count : ℕ) (origin here : Thread) : Type 0 where
  pub goes : local_after p t count origin ≡ Some here
  pub turn : count ≤ most_local_steps
  pub whole : count < most_local_steps → local_step p t here ≡ None

-- a thread that can move has taken the local steps of its turn, and the machine is there
pub record Walked (p : Program) (k : PieceConcrete) (t count : ℕ) (mid : PieceConcrete) : Type 0 where
  pub origin : Thread
  pub here : Thread
  pub stands : thread_of k.concrete t ≡ Some origin
  pub moves : can_move k.concrete t ≡ true
  pub turns : Turns p t count origin here
  pub there : mid ≡ with_local k t here

-- why an entry has the local steps of its turn alone, though another step comes next: that one may not be, or there is no
-- memory for what it prints
abbrev pub FailsAfter : Program → PieceConcrete → ℕ → ℕ → RunFault → Type 0
FailsAfter p k t count Broken = BreaksAfter p k t count
FailsAfter p k t count Memory = Unit {0}
FailsAfter p k t count Stray = ⊥
FailsAfter p k t count CannotMove = ⊥
FailsAfter p k t count Limit = ⊥

-- behind its local steps, so many, a thread's entry was ended otherwise than with an access, put at the end of the log, and
-- told so; it has so many steps
pub record EndsWalk (p : Program) (k : PieceConcrete) (t count : ℕ) (log : List Entry) (k' : PieceConcrete)
    (log' : List Entry) (steps : ℕ) (told : Result Attempt RunFault) : Type 0 where
  pub entry : Entry
  pub own : entry.thread ≡ t
  pub local : entry.local ≡ count
  pub enters : EntersOwn p k entry k'
  pub grows : log' ≡ log ++ entry ∷ []
  pub costs : steps ≡ entry.local + event_cost entry.event
  pub next : OnOk told (IsNextEntry p k t entry.local entry.event)
  pub made : IfOk told (λ a. (is_made a ≡ true) × (a ≢ Accessed))
  pub fails : IfErr told (λ fault. (IsHeldUp p k t → ⊥) → FailsAfter p k t count fault)
