-- How many tokens a statement can't be written without: no parentheses are counted. The pace of a run is said by it.
use Rattle.std.specs.Prelude.{ℕ, ◌+◌, List, [], ◌∷◌, Option, Some, None, max}
use Rattle.program.specs.Trees.{Expression, Constant, Truth, Local, Member, Element, Unary, Both, Target, ToLocal}
use Rattle.program.specs.Trees.{ToMember, ToElement, Statement, Assign, If, While, Call, Fork, Join, Return, Wait}
use Rattle.program.specs.Trees.{Notify, Broadcast, Print, Abort, Block, Done, Then, Part, NoPart, SomePart, Procedure}
use Rattle.program.specs.Trees.{Program}

-- the tokens of an expression
abbrev pub expression_tokens : Expression → ℕ
expression_tokens (Constant n) = 1
expression_tokens (Truth b) = 1
expression_tokens (Local slot) = 1
expression_tokens (Member m) = 1
expression_tokens (Element a e) = 3 + expression_tokens e
expression_tokens (Unary op e) = 1 + expression_tokens e
expression_tokens (Both op l r) = 1 + expression_tokens l + expression_tokens r

-- a comma behind each argument but the last is left out
abbrev pub arguments_tokens : List Expression → ℕ
arguments_tokens [] = 0
arguments_tokens (e ∷ es) = expression_tokens e + arguments_tokens es

-- the tokens of what is assigned to
abbrev pub target_tokens : Target → ℕ
target_tokens (ToLocal slot) = 1
target_tokens (ToMember m) = 1
target_tokens (ToElement a e) = 3 + expression_tokens e

-- the tokens of INTO and its name
abbrev pub into_tokens : Option ℕ → ℕ
into_tokens None = 0
into_tokens (Some slot) = 2

-- the tokens of an expression that may be left out
abbrev pub value_tokens : Option Expression → ℕ
value_tokens None = 0
value_tokens (Some e) = expression_tokens e

abbrev mutual
  pub statement_tokens : Statement → ℕ
  statement_tokens (Assign target e) = target_tokens target + 2 + expression_tokens e
  statement_tokens (If e b part) = 4 + expression_tokens e + block_tokens b + part_tokens part
  statement_tokens (While e b) = 4 + expression_tokens e + block_tokens b
  statement_tokens (Call q es into) = 5 + arguments_tokens es + into_tokens into
  statement_tokens (Fork q es into) = 7 + arguments_tokens es
  statement_tokens (Join e into part) = 2 + expression_tokens e + into_tokens into + part_tokens part
  statement_tokens (Return value) = 2 + value_tokens value
  statement_tokens (Wait c) = 3
  statement_tokens (Notify c) = 3
  statement_tokens (Broadcast c) = 3
  statement_tokens (Print e) = 2 + expression_tokens e
  statement_tokens Abort = 2

  pub block_tokens : Block → ℕ
  block_tokens Done = 0
  block_tokens (Then first rest) = statement_tokens first + block_tokens rest

  pub part_tokens : Part → ℕ
  part_tokens NoPart = 0
  part_tokens (SomePart b) = 1 + block_tokens b

-- the most of a statement among these, and among those inside them: an outer one has more than each inside it
abbrev pub most_of : Block → ℕ
most_of Done = 0
most_of (Then first rest) = max (statement_tokens first) (most_of rest)

-- the most tokens of a statement in these procedures
abbrev pub most_of_procedures : List Procedure → ℕ
most_of_procedures [] = 0
most_of_procedures (q ∷ qs) = max (most_of q.body) (most_of_procedures qs)

-- the most tokens of a statement in the program
abbrev pub most_tokens : Program → ℕ
most_tokens p = most_of_procedures p.procedures
