-- Which steps of a thread complete an internal action of its process: by the marks of the code, the request and its
-- answer.
use Rattle.std.specs.Prelude.{ℕ, ◌≡◌, ◌==◌, List, Option, Some, None, if◌then◌else◌, slice_get}
use Rattle.words.specs.declared.outcome.Fault.TheVariants.{ProcessTableFull}
use Rattle.isa.specs.Programs.{Program as Image}
use Rattle.lowering.specs.declared.mark.Mark.{Mark}
use Rattle.lowering.specs.declared.mark.Mark.TheVariants.{AssignLocal, Test, Call, Return, LastReturn}
use Rattle.lowering.specs.declared.mark.Marked.{Marked}
use Rattle.locals.specs.Threads.{Thread, Runs, Dies, Exits}
use Rattle.locals.specs.Looks.{Request, Look, Goes, Asks, Leaves, Breaks, Rests, AskFork, AskReturn}
use Rattle.locals.specs.Looks.{AskReturnValue, AskFault}
use Rattle.meaning.specs.Labels.{Cause, Faulted, Killed, Kind, Fails}
use Rattle.meaning.specs.Labels as L

-- an image, and the mark of each of its instructions
pub record MarkedImage : Type 0 where
  pub image : Image
  pub marks : List Mark

-- the instruction stands at the place, with its mark
abbrev pub IsAt : MarkedImage → ℕ → Marked → Type 0
IsAt p place i = (slice_get p.image.code place ≡ Some i.instruction) × (slice_get p.marks place ≡ Some i.mark)

-- the mark at which a thread stands
abbrev pub mark_of : List Mark → Thread → Option Mark
mark_of marks (Runs place operands locals callers) = slice_get marks place
mark_of marks (Dies cause) = None
mark_of marks (Exits phase) = None

-- the action at a local step of an instruction with this mark
abbrev pub deferred_by_mark : Option Mark → Option Kind
deferred_by_mark (Some AssignLocal) = Some L.Assign
deferred_by_mark (Some Test) = Some L.Test
deferred_by_mark (Some Call) = Some L.Call
deferred_by_mark (Some Return) = Some L.Return
deferred_by_mark other = None

-- and at the return of a last frame
abbrev pub last_mark : Option Mark → Option Kind
last_mark (Some Return) = Some L.Return
last_mark (Some LastReturn) = Some L.Return
last_mark other = None

-- at the writing of a cause of death: a fault; that a process was killed is no action of its own
abbrev pub fault_of : Cause → Option Kind
fault_of (Faulted fault) = Some (Fails fault)
fault_of Killed = None

-- at a request and its answer: a return, a fault, and a fork that finds no room
abbrev pub deferred_by_request : Option Mark → Request → (answer : ℕ) → Option Kind
deferred_by_request mark AskReturn r = last_mark mark
deferred_by_request mark (AskReturnValue v) r = last_mark mark
deferred_by_request mark (AskFault cause) r = fault_of cause
deferred_by_request mark (AskFork entry arguments has_room) r = if r == 0 then Some (Fails ProcessTableFull) else None
deferred_by_request mark request r = None

-- at a step of a thread that stands at this mark and looks so
abbrev pub deferred_by_step : Option Mark → Look → (answer : ℕ) → Option Kind
deferred_by_step mark (Goes x) r = deferred_by_mark mark
deferred_by_step mark (Asks request go) r = deferred_by_request mark request r
deferred_by_step mark (Leaves phase) r = None
deferred_by_step mark Breaks r = None
deferred_by_step mark Rests r = None
