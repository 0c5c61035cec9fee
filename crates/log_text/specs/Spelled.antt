-- Which logs have lines of their own, and what comes of a text that is to be lines of a log.
use Rattle.std.specs.Prelude.{ℕ, ◌≡◌, ◌≢◌, ◌<◌, ◌+◌, ◌^◌, List, ◌++◌, length, Option, Some, None, codes}
use Rattle.std.specs.List.{All}
use Rattle.machine.specs.declared.event.Entry.{Entry}
use Rattle.machine.specs.declared.event.Event.{Event}
use Rattle.machine.specs.declared.event.EventName.{EventName}
use Rattle.machine.specs.declared.event.EventName.TheVariants.{Local}
use Rattle.log_text.specs.Cuts.{IsThreadSet}
use Rattle.log_text.specs.LogLines.{entry_line, log_lines, set_text, value_text}
use Rattle.log_text.specs.declared.reading.ReadLogFault.{ReadLogFault}
use Rattle.log_text.specs.declared.reading.ReadLogFault.TheVariants.{Line, Memory}

-- the event of a shared step, with numbers and sets of the machine's size
pub record IsSharedEvent (e : Event) : Type 0 where
  pub shared : e.name ≢ Local
  pub value : e.value < 2 ^ 32
  pub woken : IsThreadSet e.woken
  pub moved : IsThreadSet e.moved

abbrev pub IsStep : Option Event → Type 0
IsStep None = Unit {0}
IsStep (Some e) = IsSharedEvent e

-- an entry of the machine's size, of local steps and at most one shared step
pub record IsSized (e : Entry) : Type 0 where
  pub thread : e.thread < 2 ^ 32
  pub local : e.local < 2 ^ 32
  pub step : IsStep e.event

-- an event of this name, whose text ends so behind the name and a space
pub record EndsEvent (name : EventName) (text : List ℕ) (e : Event) : Type 0 where
  pub called : e.name ≡ name
  pub spelled : text ≡ value_text e.name e.value ++ (set_text (codes " woke") e.woken ++ set_text (codes " moved") e.moved)

-- the text is just the lines of these entries
pub record IsLogText (text : List ℕ) (log : List Entry) : Type 0 where
  pub lines : log_lines log ≡ text
  pub sized : All IsSized log

-- the text goes on by the line of no entry
abbrev pub NoLine : List ℕ → Type 0
NoLine text = (e : Entry) (later : List ℕ) → IsSized e → text ≡ entry_line e ++ later → ⊥

-- the line of this number, from 1, is the first that is no entry's: behind the lines of the entries before it the text
-- goes on, and not by the line of an entry
pub record IsBadLine (text : List ℕ) (number : ℕ) : Type 0 where
  pub before : List Entry
  pub rest : List ℕ
  pub cut : text ≡ log_lines before ++ rest
  pub sized : All IsSized before
  pub counted : number ≡ length before + 1
  pub more : 0 < length rest
  pub none : NoLine rest

-- why a text isn't read as a log
abbrev pub RefusesLines : List ℕ → ReadLogFault → Type 0
RefusesLines text (Line number) = IsBadLine text number
RefusesLines text Memory = Unit {0}

-- a text is the lines of one list of entries at most
abbrev pub LinesOnce : Type 0
LinesOnce = (text : List ℕ) (a b : List Entry) → IsLogText text a → IsLogText text b → a ≡ b

-- where it is, no line of it is none of an entry
abbrev pub NoBadLine : Type 0
NoBadLine = (text : List ℕ) (log : List Entry) (number : ℕ) → IsLogText text log → IsBadLine text number → ⊥
