-- What it comes of that a job has no answer.
use Rattle.std.specs.Prelude.{◌≡◌, ◌≢◌, ◌⊎◌}
use Rattle.std.specs.declared.io.ErrorKind.{ErrorKind}
use Rattle.std.specs.declared.io.ErrorKind.TheVariants as io
use Rattle.devices.specs.declared.reading.ReadFault.{ReadFault}
use Rattle.devices.specs.declared.reading.ReadFault.TheVariants as read
use Rattle.isa.specs.declared.fault.DecodeFault.{DecodeFault}
use Rattle.isa.specs.declared.fault.DecodeFault.TheVariants as image
use Rattle.assembler.specs.declared.refusal.AssemblyRefusal.{AssemblyRefusal}
use Rattle.assembler.specs.declared.refusal.AssemblyFault.TheVariants as assembly
use Rattle.scanner.specs.declared.refusal.Refusal.{Refusal}
use Rattle.scanner.specs.declared.refusal.RefusalKind.TheVariants as kind
use Rattle.action_text.specs.declared.following.FollowFault.{FollowFault}
use Rattle.action_text.specs.declared.following.FollowFault.TheVariants as follow
use Rattle.runner.specs.declared.fault.RunFault.{RunFault}
use Rattle.runner.specs.declared.fault.RunFault.TheVariants as fault
use Rattle.runner.specs.declared.schedule.ScheduleFault.{ScheduleFault}
use Rattle.runner.specs.declared.schedule.ScheduleFault.TheVariants as schedule
use Rattle.schedules.specs.declared.shrinking.ShrinkFault.{ShrinkFault}
use Rattle.schedules.specs.declared.shrinking.ShrinkFault.TheVariants as shrink
use Rattle.answers.specs.declared.source_run.RunSourceFault.{RunSourceFault}
use Rattle.answers.specs.declared.source_run.RunSourceFault.TheVariants as source
use Rattle.answers.specs.declared.replaying.ReplayFault.{ReplayFault}
use Rattle.answers.specs.declared.replaying.ReplayFault.TheVariants as replay
use Rattle.answers.specs.declared.explained_run.ExplainSourceFault.{ExplainSourceFault}
use Rattle.answers.specs.declared.explained_run.ExplainSourceFault.TheVariants as explain
use Rattle.answers.specs.declared.source_log.SourceLogFault.{SourceLogFault}
use Rattle.answers.specs.declared.source_log.SourceLogFault.TheVariants as log
use Rattle.answers.specs.declared.failure.Failure.{Failure}
use Rattle.answers.specs.declared.failure.Failure.TheVariants.{Image, Run, Schedule, Broken, NoFailure}
use Rattle.answers.specs.declared.failure.Failure.TheVariants.{ActionLine, Action, LogLine, LogEntry, LogSteps, Memory}
use Rattle.answers.specs.declared.failure.NoAnswer.{NoAnswer}
use Rattle.answers.specs.declared.failure.NoAnswer.TheVariants.{Refused, Unassembled, Failed}

-- an error of input or output is this failure, but for want of memory that of memory
abbrev pub OfIo : ErrorKind → Failure → Failure → Type 0
OfIo k other f = ((k ≡ io.OutOfMemory) × (f ≡ Memory)) ⊎ ((k ≢ io.OutOfMemory) × (f ≡ other))

-- so is the fault of a read
abbrev pub OfSource : ReadFault → Failure → Failure → Type 0
OfSource read.Device other f = f ≡ other
OfSource read.Memory other f = f ≡ Memory

-- and so is the fault of an image
abbrev pub OfImage : DecodeFault → Failure → Type 0
OfImage image.Memory f = f ≡ Memory
OfImage e f = f ≡ Image e

-- and so is the fault of a run
abbrev pub OfFault : RunFault → Failure → Type 0
OfFault fault.Memory f = f ≡ Memory
OfFault e f = f ≡ Run e

-- a refusal stands for itself, but for that of memory, which is a failure
abbrev pub OfRefusal : Refusal → NoAnswer → Type 0
OfRefusal e n =
    ((e.kind ≡ kind.Memory) × (n ≡ Failed Memory)) ⊎ ((e.kind ≢ kind.Memory) × (n ≡ Refused e))

-- the same of an assembly text
abbrev pub OfAssembly : AssemblyRefusal → NoAnswer → Type 0
OfAssembly e n =
    ((e.fault ≡ assembly.Memory) × (n ≡ Failed Memory)) ⊎ ((e.fault ≢ assembly.Memory) × (n ≡ Unassembled e))

-- what comes of a fault of `run`
abbrev pub OfRun : RunSourceFault → NoAnswer → Type 0
OfRun (source.Refused e) n = OfRefusal e n
OfRun (source.Run e) n = (f : Failure) × OfFault e f × (n ≡ Failed f)

-- what comes of a fault of `replay`
abbrev pub OfReplay : ReplayFault → NoAnswer → Type 0
OfReplay (replay.Refused e) n = OfRefusal e n
OfReplay (replay.BadEntry number) n = n ≡ Failed (Schedule number)
OfReplay replay.Memory n = n ≡ Failed Memory

-- what comes of a fault of a schedule
abbrev pub OfSchedule : ScheduleFault → NoAnswer → Type 0
OfSchedule (schedule.BadEntry number) n = n ≡ Failed (Schedule number)
OfSchedule (schedule.Broken number) n = n ≡ Failed (Broken number)
OfSchedule schedule.Memory n = n ≡ Failed Memory

-- what comes of one that isn't made shorter
abbrev pub OfShrink : ShrinkFault → NoAnswer → Type 0
OfShrink (shrink.Schedule fault) n = OfSchedule fault n
OfShrink shrink.NoFailure n = n ≡ Failed NoFailure
OfShrink shrink.Memory n = n ≡ Failed Memory

-- what comes of a fault of `explain`
abbrev pub OfExplain : ExplainSourceFault → NoAnswer → Type 0
OfExplain (explain.Refused e) n = OfRefusal e n
OfExplain explain.Memory n = n ≡ Failed Memory

-- what comes of a fault of a log
abbrev pub OfSourceLog : SourceLogFault → NoAnswer → Type 0
OfSourceLog (log.Refused e) n = OfRefusal e n
OfSourceLog (log.Line number) n = n ≡ Failed (LogLine number)
OfSourceLog (log.Entry number) n = n ≡ Failed (LogEntry number)
OfSourceLog (log.Steps most) n = n ≡ Failed (LogSteps most)
OfSourceLog log.Memory n = n ≡ Failed Memory

-- what comes of a fault of actions that are followed
abbrev pub OfFollowing : FollowFault → NoAnswer → Type 0
OfFollowing (follow.Line number) n = n ≡ Failed (ActionLine number)
OfFollowing (follow.Action number) n = n ≡ Failed (Action number)
OfFollowing follow.Memory n = n ≡ Failed Memory

-- where it is a refusal, it is one of this kind, and else there is no memory
abbrev pub IsRefusalOrMemory : (Refusal → Type 0) → NoAnswer → Type 0
IsRefusalOrMemory Refuses (Refused e) = Refuses e
IsRefusalOrMemory Refuses (Unassembled e) = ⊥
IsRefusalOrMemory Refuses (Failed f) = f ≡ Memory

-- there is no memory, or what failed has such a cause
abbrev pub OrMemory : (Failure → Type 0) → Failure → Type 0
OrMemory Fails f = (f ≡ Memory) ⊎ Fails f

-- why there is no answer: a refusal of this kind, of a source text or of an assembly text; or there is no memory, or what
-- failed has such a cause
abbrev pub IsLeftBy : (Refusal → Type 0) → (AssemblyRefusal → Type 0) → (Failure → Type 0) → NoAnswer → Type 0
IsLeftBy Refuses Unassembles Fails (Refused e) = Refuses e
IsLeftBy Refuses Unassembles Fails (Unassembled e) = Unassembles e
IsLeftBy Refuses Unassembles Fails (Failed f) = OrMemory Fails f

-- it is want of memory
abbrev pub HasNoMemory : NoAnswer → Type 0
HasNoMemory n = n ≡ Failed Memory
