-- What is seen of a machine and of a source: their ends. (The output is a list in both; variables have their
-- addresses.)
use Rattle.std.specs.Prelude.{ℕ, Option, Some, None}
use Rattle.words.specs.declared.outcome.Outcome.{Outcome}
use Rattle.words.specs.declared.outcome.Outcome.TheVariants as outcome
use Rattle.words.specs.Outcomes.{outcome_of}
use Rattle.words.specs.Process.{process_word}
use Rattle.robustexit.specs.declared.phase.ExitPhase.TheVariants.{Entry, Pending, ClearId, LastWake, Ended as Ended'}
use Rattle.locals.specs.Threads.{Thread, Runs, Dies, Exits}
use Rattle.machine.specs.States.{State}
use Rattle.meaning.specs.Labels.{End, Ended, Aborted}
use Rattle.meaning.specs.Processes.{Process, Over}
use Rattle.meaning.specs.States.{SourceState}

-- how a process has ended, if it has: on the machine a thread is past the clearing of its id word, with its outcome
abbrev pub end_by : ℕ → Option Thread → Option Outcome
end_by word None = None
end_by word (Some (Runs place operands locals callers)) = None
end_by word (Some (Dies cause)) = None
end_by word (Some (Exits (Entry entry seen))) = None
end_by word (Some (Exits Pending)) = None
end_by word (Some (Exits ClearId)) = None
end_by word (Some (Exits LastWake)) = Some (outcome_of word)
end_by word (Some (Exits Ended')) = Some (outcome_of word)

-- how a thread of the machine ended, if it has
abbrev pub machine_end : State → ℕ → Option Outcome
machine_end s t = end_by (s.word (process_word t 5)) (s.thread t)

-- the outcome of an end
abbrev pub outcome_of_end : End → Outcome
outcome_of_end (Ended z) = outcome.Ended
outcome_of_end (Aborted cause) = outcome.Aborted cause

-- how a process ended, if it has
abbrev pub process_end : Option Process → Option Outcome
process_end (Some (Over end)) = Some (outcome_of_end end)
process_end other = None

-- the same, by the process's number
abbrev pub source_end : SourceState → ℕ → Option Outcome
source_end s q = process_end (s.process q)
