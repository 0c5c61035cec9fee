-- Which checked programs have an image, and why others have none.
use Rattle.std.specs.Prelude.{◌≡◌, ◌⊎◌, ◌≤◌, ◌<◌, length}
use Rattle.isa.specs.Limits.{most_instructions}
use Rattle.scanner.specs.declared.refusal.Refusal.{Refusal}
use Rattle.scanner.specs.Refusals.{out_of_memory}
use Rattle.program.specs.Trees.{Program}
use Rattle.lowering.specs.Pieces.{code_of}
use Rattle.codegen.specs.Failures.{too_long}

-- the code of a program is no longer than an image may have
abbrev pub CodeFits : Program → Type 0
CodeFits p = length (code_of p).code ≤ most_instructions

-- it is longer
abbrev pub CodeIsTooLong : Program → Type 0
CodeIsTooLong p = most_instructions < length (code_of p).code

-- memory has run out, or the code is too long
abbrev pub RefusesCode : Program → Refusal → Type 0
RefusesCode p e = (e ≡ out_of_memory) ⊎ ((e ≡ too_long) × CodeIsTooLong p)
