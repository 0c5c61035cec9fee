-- How long a log that comes from outside may be.
use Rattle.std.specs.Prelude.{ℕ, ◌≤◌, ◌<◌, ◌+◌, ◌*◌, ◌^◌, List}
use Rattle.machine.specs.declared.event.Entry.{Entry}
use Rattle.runner.specs.Logs.{cost}
use Rattle.log_text.specs.Spelled.{IsLogText}

-- how many bytes the lines of a log of at most so many steps may have
abbrev pub log_bytes : ℕ → ℕ
log_bytes steps = 64 * steps + 2 ^ 20

-- the lines are those of a log of at most so many steps
abbrev pub HasFewSteps : (lines : List ℕ) → ℕ → Type 0
HasFewSteps lines most = (entries : List Entry) × IsLogText lines entries × (cost entries ≤ most)

-- the lines are those of a log of more steps
abbrev pub HasManySteps : (lines : List ℕ) → ℕ → Type 0
HasManySteps lines most = (entries : List Entry) × IsLogText lines entries × (most < cost entries)
