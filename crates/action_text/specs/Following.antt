-- What comes of a text that is to tell a run of a program.
use Rattle.std.specs.Prelude.{ℕ, ◌≡◌, ◌<◌, ◌+◌, Bool, true, false, List, length, map, Some}
use Rattle.program.specs.Names.{CheckedProgram, said_by}
use Rattle.program.specs.Trees.{Program}
use Rattle.meaning.specs.Labels.{Action}
use Rattle.meaning.specs.Processes.{Process}
use Rattle.meaning.specs.Runs.{CanMove, IsRun}
use Rattle.meaning.specs.States.{SourceState}
use Rattle.proof_exploration.specs.Exploring.{IsOver, IsStuck}
use Rattle.source_states.specs.Actions.{action_of}
use Rattle.source_states.specs.declared.action.Action.{Action as ActionOf}
use Rattle.sourcemeaning.specs.Running.{IsRunLength}
use Rattle.action_text.specs.Reading.{IsActionsText, IsBadLine}
use Rattle.action_text.specs.declared.ends.RunEnd.{RunEnd}
use Rattle.action_text.specs.declared.ends.RunEnd.TheVariants.{Over, Stuck, Open}
use Rattle.action_text.specs.declared.following.FollowFault.{FollowFault}
use Rattle.action_text.specs.declared.following.FollowFault.TheVariants as fault
use Rattle.action_text.specs.declared.following.ToldRun.{ToldRun}
use Rattle.action_text.specs.declared.reading.ReadActionsFault.{ReadActionsFault}
use Rattle.action_text.specs.declared.reading.ReadActionsFault.TheVariants as read

-- there is such a process, and it isn't over
abbrev pub GoesOn : SourceState → ℕ → Type 0
GoesOn s q = (at : Process) × (s.process q ≡ Some at) × (IsOver at → ⊥)

-- how a run ends where no process can move, by whether some process isn't over
abbrev pub end_by : Bool → RunEnd
end_by true = Stuck
end_by false = Over

-- so ends a run that leads to this state: each process is over; no process can move, and some process isn't over; or some
-- process can move
abbrev pub EndsSo : RunEnd → Program → SourceState → Type 0
EndsSo Over p s = (q : ℕ) (at : Process) → s.process q ≡ Some at → IsOver at
EndsSo Stuck p s = IsStuck p s
EndsSo Open p s = (q : ℕ) × CanMove p s q

-- the text is the lines of these actions, and they are a run of the program that ends so
pub record TellsRun (c : CheckedProgram) (text : List ℕ) (actions : List Action) (end : RunEnd) : Type 0 where
  pub reads : IsActionsText c.names text actions
  pub state : SourceState
  pub run : IsRun (said_by c) actions state
  pub ends : EndsSo end (said_by c) state

abbrev pub IsToldRun : CheckedProgram → List ℕ → ToldRun → Type 0
IsToldRun c text r = TellsRun c text (map action_of r.actions.items) r.end

-- the action of this number, from 1, is the first that can't come next: those before it are a run, and with it they aren't
abbrev pub IsFirstRefused : Program → List ActionOf → ℕ → Type 0
IsFirstRefused p actions number =
    (count : ℕ) × IsRunLength p actions count × (count < length actions) × (number ≡ count + 1)

-- why actions are no run
abbrev pub StopsAfter : Program → List ActionOf → FollowFault → Type 0
StopsAfter p actions (fault.Line number) = ⊥
StopsAfter p actions (fault.Action number) = IsFirstRefused p actions number
StopsAfter p actions fault.Memory = Unit {0}

-- the text is the lines of actions of which the one of this number is the first that can't come next
pub record StopsText (c : CheckedProgram) (text : List ℕ) (number : ℕ) : Type 0 where
  pub actions : List ActionOf
  pub reads : IsActionsText c.names text (map action_of actions)
  pub stops : IsFirstRefused (said_by c) actions number

-- why a text tells no run
abbrev pub IsRefusedText : CheckedProgram → List ℕ → FollowFault → Type 0
IsRefusedText c text (fault.Line number) = IsBadLine c.names text number
IsRefusedText c text (fault.Action number) = StopsText c text number
IsRefusedText c text fault.Memory = Unit {0}

-- what comes of a fault of reading
abbrev pub OfReading : ReadActionsFault → FollowFault → Type 0
OfReading (read.Line number) f = f ≡ fault.Line number
OfReading read.Memory f = f ≡ fault.Memory
