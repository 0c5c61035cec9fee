-- The words of a schedule that is written.
use Rattle.std.specs.Prelude.{ℕ, ◌++◌, List, codes}
use Rattle.std.specs.Fmt.{decimal}
use Rattle.std.specs.List.{flat_map}
use Rattle.runner.specs.declared.schedule.Turn.{Turn}
use Rattle.runner.specs.declared.schedule.Turn.TheVariants as turn

-- the word of a turn, and the text of a schedule
abbrev pub turn_line : Turn → List ℕ
turn_line (turn.Step t) = decimal t ++ codes "\n"
turn_line (turn.Stray t) = codes "s" ++ (decimal t ++ codes "\n")
turn_line (turn.Kill t) = codes "k" ++ (decimal t ++ codes "\n")

abbrev pub schedule_text : List Turn → List ℕ
schedule_text turns = flat_map turn_line turns
