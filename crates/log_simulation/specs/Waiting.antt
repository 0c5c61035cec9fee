-- Who waits on a condition, while its thread doesn't sleep.
use Rattle.std.specs.Prelude.{ℕ, ◌==◌, ◌&&◌, not, Bool, false, Option, Some, None}
use Rattle.machine.specs.States.{State}
use Rattle.program.specs.declared.kinds.Member.{Member}
use Rattle.meaning.specs.Table.{Table}
use Rattle.protocol.specs.Carries.{waits_on}

-- it sleeps on the word at this address
abbrev pub sleeps_at : ℕ → Option ℕ → Bool
sleeps_at a None = false
sleeps_at a (Some b) = b == a

-- a process waits on the condition, and its thread doesn't sleep on the word
abbrev pub is_awake : ℕ → State → Table → Member → ℕ → Bool
is_awake a s T c t = waits_on c (T.waits t) && not (sleeps_at a (s.asleep t))
