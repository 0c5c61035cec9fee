-- The walk of a robust list, as the phases of an exit.
use Rattle.std.specs.Prelude.{ℕ, ◌||◌, ◌==◌, nat_le, if◌then◌else◌}
use Rattle.robustexit.specs.declared.phase.ExitPhase.{ExitPhase}
use Rattle.robustexit.specs.declared.phase.ExitPhase.TheVariants.{Entry, Pending}

-- the most entries of a list that are walked (robust-futex ABI, ROBUST_LIST_LIMIT)
abbrev pub most_entries : ℕ
most_entries = 2048

-- the phase at an entry after `seen` others: a list ends at entry 0, and after the most entries that are walked
abbrev pub next_entry : ℕ → ℕ → ExitPhase
next_entry e seen = if (e == 0) || nat_le most_entries seen then Pending else Entry (record { 0 = e }) seen
