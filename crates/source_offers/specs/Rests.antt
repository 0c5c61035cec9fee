-- What is left of a procedure's body, as positions in its statements: the innermost statements last.
use Rattle.std.specs.Prelude.{◌≡◌, List, [], ◌∷◌, Option, Some, None}
use Rattle.std.specs.Borrow.{Bor}
use Rattle.program.specs.declared.statement.Statement.{Statement as StatementOf}
use Rattle.program.specs.Trees.{Block, Done, Then}
use Rattle.program.specs.Views.{block_before, statement_of}

-- the statements of several positions, those of the last one first, before others
abbrev pub stacked_blocks : List (Bor (List StatementOf)) → Block → Block
stacked_blocks [] later = later
stacked_blocks (position ∷ more) later = stacked_blocks more (block_before position.now later)

-- what is left, by the positions
abbrev pub rest_in : List (Bor (List StatementOf)) → Block
rest_in positions = stacked_blocks positions Done

-- the statement that was taken is the first of these
abbrev pub IsTaken : Option (List StatementOf) → Block → Block → Type 0
IsTaken None before after = (before ≡ Done) × (after ≡ Done)
IsTaken (Some []) before after = ⊥
IsTaken (Some (s ∷ ss)) before after = before ≡ Then (statement_of s) after
