use Rattle.std.proofs.Common.{◌≡◌, ◌≤◌, ◌+◌, ◌++◌, length}
use Rattle.std.specs.List.{All}
use Rattle.log_text.specs.LogLines.{log_lines}
use Rattle.log_text.specs.Spelled.{IsSized}
use Rattle.log_text.proofs.reading.read_log.Given as goal

abbrev pub invariant-loop-rest : goal.invariant-loop-rest
invariant-loop-rest l = record {
  cut : l.text ≡ log_lines l.entries.items ++ l.rest;
  sized : All IsSized l.entries.items;
  number : l.number ≡ length l.entries.items;
  few : l.number + length l.rest ≤ length l.text;
}

abbrev pub decreases-loop-rest : goal.decreases-loop-rest
decreases-loop-rest l = length l.rest
