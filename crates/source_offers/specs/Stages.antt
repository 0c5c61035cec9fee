-- What the code keeps of a process, as a process of the meaning.
use Rattle.std.specs.Prelude.{List, Option, Some, None}
use Rattle.std.specs.Borrow.{Bor}
use Rattle.program.specs.declared.statement.Statement.{Statement as StatementOf}
use Rattle.program.specs.Trees.{Part, NoPart, SomePart}
use Rattle.program.specs.Views.{block_in}
use Rattle.meaning.specs.Labels.{End, Ended, Aborted}
use Rattle.meaning.specs.Processes.{Frame, Caller, Process, Entering, Before, Suspended, Joining, Returning, Failing}
use Rattle.meaning.specs.Processes.{Dying, Leaving, Over}
use Rattle.source_offers.specs.declared.process.End.{End as EndOf}
use Rattle.source_offers.specs.declared.process.End.TheVariants.{Ended as Ended', Aborted as Aborted'}
use Rattle.source_offers.specs.declared.process.Stage.{Stage as StageOf}
use Rattle.source_offers.specs.declared.process.Stage.TheVariants.{Entering as Entering', Before as Before'}
use Rattle.source_offers.specs.declared.process.Stage.TheVariants.{Suspended as Suspended', Joining as Joining'}
use Rattle.source_offers.specs.declared.process.Stage.TheVariants.{Returning as Returning', Failing as Failing'}
use Rattle.source_offers.specs.declared.process.Stage.TheVariants.{Dying as Dying', Leaving as Leaving', Over as Over'}
use Rattle.source_offers.specs.declared.process.Process.{Process as ProcessOf}
use Rattle.source_offers.specs.Frames.{frame_of, callers_of}

-- how a process ended
abbrev pub end_of : EndOf → End
end_of (Ended' z) = Ended z
end_of (Aborted' cause) = Aborted cause

-- a part that may be left out
abbrev pub part_at : Option (Bor (List StatementOf)) → Part
part_at None = NoPart
part_at (Some b) = SomePart (block_in b.now)

-- a process at this stage, with its procedures
abbrev pub standing : StageOf → Frame → List Caller → Process
standing (Entering' m) f callers = Entering m f callers
standing (Before' entered) f callers = Before entered f callers
standing (Suspended' c) f callers = Suspended c f callers
standing (Joining' child into aborted) f callers = Joining child into (part_at aborted) f callers
standing (Returning' z) f callers = Returning z callers
standing (Failing' fault entered) f callers = Failing fault entered f callers
standing (Dying' cause monitors) f callers = Dying cause monitors.items
standing (Leaving' z) f callers = Leaving z
standing (Over' end) f callers = Over (end_of end)

-- a process
abbrev pub process_of : ProcessOf → Process
process_of q = standing q.stage (frame_of q.frame) (callers_of q.callers.items)
