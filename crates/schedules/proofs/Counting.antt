-- Switches that are counted from the front of a schedule on.
use Rattle.std.proofs.Common.{◌≡◌, ◌<◌, ◌≤◌, ◌+◌, ℕ, List, Option, Some, ap, drop, get_or, length}
use Rattle.std.proofs.lemmas.List.{drop_all, drop_more}
use Rattle.runner.specs.declared.schedule.Turn.{Turn}
use Rattle.schedules.specs.Switches.{switch_at, switches_behind}

-- what the next turn adds
pub one_more : (before : Option Turn) (ts : List Turn) (i : ℕ) (d : Turn) → i < length ts
    → switches_behind before (drop i ts)
    ≡ switch_at before (get_or ts i d) + switches_behind (Some (get_or ts i d)) (drop (i + 1) ts)
one_more before ts i d inside = ap (switches_behind before) (drop_more ts i d inside)

-- at the end none are left
pub counted_all : (before : Option Turn) (ts : List Turn) (i : ℕ) → length ts ≤ i → switches_behind before (drop i ts) ≡ 0
counted_all before ts i past = ap (switches_behind before) (drop_all i ts past)
