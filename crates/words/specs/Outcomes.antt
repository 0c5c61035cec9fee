-- The outcome word of a process: 0 not yet, 1 to 8 a fault, 9 killed from outside, 16 ended.
use Rattle.std.specs.Prelude.{ℕ, ◌==◌, if◌then◌else◌}
use Rattle.words.specs.declared.outcome.Fault.{Fault}
use Rattle.words.specs.declared.outcome.Fault.TheVariants.{ResultOutOfRange, DivisionByZero, IndexOutOfRange}
use Rattle.words.specs.declared.outcome.Fault.TheVariants.{HandleNotJoinable, ProcessTableFull, AbortStatement}
use Rattle.words.specs.declared.outcome.Fault.TheVariants.{AbandonedMonitor, JoinedAborted}
use Rattle.words.specs.declared.outcome.Cause.{Cause}
use Rattle.words.specs.declared.outcome.Cause.TheVariants.{Faulted, Killed}
use Rattle.words.specs.declared.outcome.Outcome.{Outcome}
use Rattle.words.specs.declared.outcome.Outcome.TheVariants.{Unfinished, Aborted, Ended, Foreign}

-- the number of a fault
abbrev pub fault_number : Fault → ℕ
fault_number ResultOutOfRange = 1
fault_number DivisionByZero = 2
fault_number IndexOutOfRange = 3
fault_number HandleNotJoinable = 4
fault_number ProcessTableFull = 5
fault_number AbortStatement = 6
fault_number AbandonedMonitor = 7
fault_number JoinedAborted = 8

-- the number of a cause
abbrev pub cause_number : Cause → ℕ
cause_number (Faulted fault) = fault_number fault
cause_number Killed = 9

-- the word of an outcome
abbrev pub outcome_word : Outcome → ℕ
outcome_word Unfinished = 0
outcome_word (Aborted cause) = cause_number cause
outcome_word Ended = 16
outcome_word (Foreign w) = w

-- the outcome that a word tells
abbrev pub outcome_of : ℕ → Outcome
outcome_of w =
    if w == 0 then Unfinished
    else if w == 1 then Aborted (Faulted ResultOutOfRange)
    else if w == 2 then Aborted (Faulted DivisionByZero)
    else if w == 3 then Aborted (Faulted IndexOutOfRange)
    else if w == 4 then Aborted (Faulted HandleNotJoinable)
    else if w == 5 then Aborted (Faulted ProcessTableFull)
    else if w == 6 then Aborted (Faulted AbortStatement)
    else if w == 7 then Aborted (Faulted AbandonedMonitor)
    else if w == 8 then Aborted (Faulted JoinedAborted)
    else if w == 9 then Aborted Killed
    else if w == 16 then Ended
    else Foreign w
