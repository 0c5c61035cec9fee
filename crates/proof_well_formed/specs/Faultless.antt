-- Units without a fault.
use Rattle.std.specs.Prelude.{◌≤◌, Contains}
use Rattle.scanner.specs.Limits.{most_number}
use Rattle.syntax.specs.declared.leaf.Number.{Number}
use Rattle.syntax.specs.Lexeme.{Numbered}
use Rattle.syntax.specs.Spelling.{unit_text}
use Rattle.syntax.specs.Tree.{UnitTree}
pub use Rattle.types.specs.Verdicts.{IsFaultless}

-- each number in its text is one that a text may have
abbrev pub HasNumbers : UnitTree → Type 0
HasNumbers u = (n : Number) → Contains (unit_text u) (Numbered n) → n.value ≤ most_number
