-- What the code's answers to requests mean.
use Rattle.std.specs.Prelude.{ℕ, ◌≡◌, Bool, List, None, Result, Ok, Err, slice_index}
use Rattle.words.specs.Process.{process_word}
use Rattle.robustexit.specs.declared.phase.ExitPhase.{ExitPhase}
use Rattle.robustexit.specs.declared.phase.ExitPhase.TheVariants.{Entry, Pending, ClearId, LastWake, Ended}
use Rattle.locals.specs.declared.request.Request.{Request as Told}
use Rattle.locals.specs.declared.request.Request.TheVariants as told
use Rattle.locals.specs.Looks.{Request, AskLoad, AskStore, AskSwap, AskCompareSwap, AskOr, AskAdd, AskFork, AskPrint}
use Rattle.locals.specs.Looks.{AskWait, AskWake, AskRequeue, AskReturn, AskReturnValue, AskFault, Look, Asks}
use Rattle.machine.specs.declared.event.Event.{Event}
use Rattle.machine.specs.declared.event.EventName.{EventName}
use Rattle.machine.specs.declared.event.EventName.TheVariants as name
use Rattle.machine.specs.declared.event.StepFault.{StepFault}
use Rattle.machine.specs.States.{Common}
use Rattle.machine.specs.ConcreteServing.{Served}

-- the request that the code tells so
abbrev pub asked_of : Told → Request
asked_of (told.Load a) = AskLoad a.0
asked_of (told.Store a v) = AskStore a.0 v
asked_of (told.Swap a v) = AskSwap a.0 v
asked_of (told.CompareSwap a expected new) = AskCompareSwap a.0 expected new
asked_of (told.FetchOr a v) = AskOr a.0 v
asked_of (told.FetchAdd a v) = AskAdd a.0 v
asked_of (told.Print number) = AskPrint number
asked_of (told.Wait a expected) = AskWait a.0 expected
asked_of (told.Wake a n) = AskWake a.0 n
asked_of (told.Requeue a b wake moves expected) = AskRequeue a.0 b.0 wake moves expected
asked_of told.Return = AskReturn
asked_of (told.ReturnValue v) = AskReturnValue v
asked_of (told.Fault cause) = AskFault cause

-- what the code answered, with the event that it put in its place and what is shared after it
abbrev pub with_common : Result ℕ StepFault → Event → Common → Result Served StepFault
with_common (Ok answer) event c = Ok (record { answer = answer; common = c; child = None; event = event })
with_common (Err fault) event c = Err fault

-- how a step of an exit is told, and the address that it names, or 0
abbrev pub name_at : ExitPhase → EventName
name_at (Entry e seen) = name.Entry
name_at Pending = name.Pending
name_at ClearId = name.Clear
name_at LastWake = name.Last
name_at Ended = name.Last

-- the value in its event: that address
abbrev pub value_at : ℕ → ExitPhase → List ℕ → ℕ
value_at t (Entry e seen) words = e.0
value_at t Pending words = slice_index words (process_word t 1)
value_at t ClearId words = 0
value_at t LastWake words = 0
value_at t Ended words = 0

-- a thread asks for a fork, whose answer has room among its operands or not
abbrev pub AsksFork : Look → Bool → Type 0
AsksFork (Asks (AskFork entry arguments room) go) has_room = room ≡ has_room
AsksFork l has_room = ⊥
