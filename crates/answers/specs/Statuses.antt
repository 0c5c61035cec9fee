-- The exit statuses.
use Rattle.std.specs.Prelude.{ℕ}
use Rattle.answers.specs.declared.status.Status.{Status}
use Rattle.answers.specs.declared.status.Status.TheVariants.{Done, Refused, Usage, Stuck, Limit, Memory, Failed, Found}

-- the number of a status
abbrev pub status_code : Status → ℕ
status_code Done = 0
status_code Refused = 1
status_code Usage = 2
status_code Stuck = 3
status_code Limit = 4
status_code Memory = 5
status_code Failed = 6
status_code Found = 7
