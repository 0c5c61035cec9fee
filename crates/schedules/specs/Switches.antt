-- How often a schedule goes from one thread to another.
use Rattle.std.specs.Prelude.{ℕ, ◌+◌, ◌==◌, Bool, false, List, [], ◌∷◌, Option, Some, None, if◌then◌else◌}
use Rattle.runner.specs.declared.schedule.Turn.{Turn}
use Rattle.runner.specs.declared.schedule.Turn.TheVariants.{Step}

-- whether two turns are steps of one thread
abbrev pub goes_on : Turn → Turn → Bool
goes_on (Step a) (Step b) = a == b
goes_on _ _ = false

-- how many switches there are between a turn and the one before it, if there is one
abbrev pub switch_at : Option Turn → Turn → ℕ
switch_at None turn = 0
switch_at (Some before) turn = if goes_on before turn then 0 else 1

-- how many there are in turns behind another
abbrev pub switches_behind : Option Turn → List Turn → ℕ
switches_behind before [] = 0
switches_behind before (t ∷ ts) = switch_at before t + switches_behind (Some t) ts

-- how many context switches a schedule has
abbrev pub switches : List Turn → ℕ
switches schedule = switches_behind None schedule
