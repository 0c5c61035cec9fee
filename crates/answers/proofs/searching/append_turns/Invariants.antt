use Rattle.std.proofs.Common.{◌≡◌, ◌++◌, take, string_bytes}
use Rattle.answers.specs.ScheduleText.{schedule_text}
use Rattle.answers.proofs.searching.append_turns.Given as goal

abbrev pub invariant-loop-turn : goal.invariant-loop-turn
invariant-loop-turn l = string_bytes l.text ≡ string_bytes l.initial.text ++ schedule_text (take l.turn-index l.turns)
