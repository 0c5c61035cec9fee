-- Schedules of which no turn can be left out.
use Rattle.std.specs.Prelude.{ℕ, ◌+◌, ◌<◌, ◌++◌, List, drop, length, take}
use Rattle.isa.specs.Programs.{Program}
use Rattle.runner.specs.declared.schedule.Turn.{Turn}
use Rattle.schedules.specs.Failing.{FailsOn}
use Rattle.schedules.specs.declared.failing.RunFailure.{RunFailure}

-- a schedule without the turn behind so many others
abbrev pub without : ℕ → List Turn → List Turn
without place schedule = take place schedule ++ drop (place + 1) schedule

-- without any one of its turns the program doesn't follow it to its end, or that run doesn't fail so
abbrev pub IsMinimal : Program → List Turn → RunFailure → Type 0
IsMinimal p schedule failure = (place : ℕ) → place < length schedule → FailsOn p (without place schedule) failure → ⊥
