-- What is written of a run: its output, and its account, which is the log where it is wanted, the verdict where not
-- all threads have ended, and the threads that have aborted or sleep.
use Rattle.std.specs.Prelude.{ℕ, zero, suc, ℤ, Bool, true, false, List, [], ◌++◌, Option, Some, None}
use Rattle.std.specs.Prelude.{codes, length, if◌then◌else◌}
use Rattle.std.specs.List.{flat_map}
use Rattle.std.specs.Fmt.{decimal, signed_decimal}
use Rattle.words.specs.Process.{process_word}
use Rattle.words.specs.Outcomes.{cause_number, outcome_of}
use Rattle.words.specs.declared.outcome.Outcome.{Outcome}
use Rattle.words.specs.declared.outcome.Outcome.TheVariants.{Aborted}
use Rattle.machine.specs.States.{ConcreteState, state_of}
use Rattle.machine.specs.Views.{concrete}
use Rattle.log_text.specs.LogLines.{line_feed, log_lines}
use Rattle.runner.specs.declared.report.Verdict.{Verdict}
use Rattle.runner.specs.declared.report.Verdict.TheVariants.{Done, Stuck, Limit}
use Rattle.runner.specs.declared.report.Report.{Report}

-- each number on a line of its own
abbrev pub output_lines : List ℤ → List ℕ
output_lines output = flat_map (λ z. signed_decimal z ++ line_feed) output

-- the line of a verdict; a run that is done has none
abbrev pub verdict_line : Verdict → List ℕ
verdict_line Done = []
verdict_line Stuck = codes "stuck" ++ line_feed
verdict_line Limit = codes "limit" ++ line_feed

-- whether the verdict is Stuck
abbrev pub is_stuck : Verdict → Bool
is_stuck Stuck = true
is_stuck _ = false

-- the line of a thread that died
abbrev pub aborted_line : ℕ → Outcome → List ℕ
aborted_line t (Aborted cause) =
    codes "process " ++ decimal t ++ codes " aborted: fault " ++ decimal (cause_number cause) ++ line_feed
aborted_line t _ = []

-- the line of a thread that sleeps
abbrev pub asleep_line : ℕ → Option ℕ → List ℕ
asleep_line t None = []
asleep_line t (Some a) = codes "process " ++ decimal t ++ codes " sleeps on word " ++ decimal a ++ line_feed

-- the lines of one thread
abbrev pub thread_lines : ConcreteState → Bool → ℕ → List ℕ
thread_lines k stuck t =
    aborted_line t (outcome_of ((state_of k).word (process_word t 5)))
    ++ (if stuck then asleep_line t ((state_of k).asleep t) else [])

-- those of the threads up to a number
abbrev pub threads_lines : ConcreteState → Bool → ℕ → List ℕ
threads_lines k stuck zero = []
threads_lines k stuck (suc t) = threads_lines k stuck t ++ thread_lines k stuck (suc t)

-- what is written of a run to standard error
abbrev pub account : Report → Bool → List ℕ
account r trace =
    (if trace then log_lines r.log.items else []) ++ verdict_line r.verdict
    ++ threads_lines (concrete r.last.view) (is_stuck r.verdict) (length (concrete r.last.view).threads)
