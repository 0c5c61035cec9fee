use Rattle.std.proofs.Common.{◌≡◌, drop}
use Rattle.source_layout.specs.Tidy.{is_tidy, is_tidy_behind}
use Rattle.source_layout.proofs.tidy.is_tidy.Given as goal

abbrev pub invariant-loop-byte : goal.invariant-loop-byte
invariant-loop-byte l = is_tidy_behind l.feeds l.blank (drop l.byte-index l.text) ≡ is_tidy l.text
