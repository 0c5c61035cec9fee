-- What is counted of a program: operands that are there at once, procedures that are called, tokens of a statement.
use Rattle.std.specs.Prelude.{ℕ, ◌+◌, ◌++◌, List, [], ◌∷◌, Option, Some, None, max}
use Rattle.program.specs.Trees.{Expression, Constant, Truth, Local, Member, Element, Unary, Both, Target, ToLocal}
use Rattle.program.specs.Trees.{ToMember, ToElement, Statement, Assign, If, While, Call, Fork, Join, Return, Wait}
use Rattle.program.specs.Trees.{Notify, Broadcast, Print, Abort, Block, Done, Then, Part, NoPart, SomePart}

-- how many operands are there at once, at most, while an expression is evaluated
abbrev pub room : Expression → ℕ
room (Constant n) = 1
room (Truth b) = 1
room (Local slot) = 1
room (Member m) = 1
room (Element a e) = room e
room (Unary op e) = room e
room (Both op l r) = max (room l) (1 + room r)

-- the same of arguments, one after another
abbrev pub arguments_room : List Expression → ℕ
arguments_room [] = 0
arguments_room (e ∷ es) = max (room e) (1 + arguments_room es)

-- the most operands at once in an assignment
abbrev pub assignment_room : Target → Expression → ℕ
assignment_room (ToLocal slot) e = room e
assignment_room (ToMember m) e = 1 + room e
assignment_room (ToElement a i) e = max (room i) (1 + room e)

-- the most operands at once in the value of a RETURN
abbrev pub value_room : Option Expression → ℕ
value_room None = 1
value_room (Some e) = room e

abbrev mutual
  pub statement_room : Statement → ℕ
  statement_room (Assign target e) = assignment_room target e
  statement_room (If e b part) = max (room e) (max (block_room b) (part_room part))
  statement_room (While e b) = max (room e) (block_room b)
  statement_room (Call q es into) = arguments_room es
  statement_room (Fork q es into) = arguments_room es
  statement_room (Join e into part) = max (room e) (part_room part)
  statement_room (Return value) = value_room value
  statement_room (Wait c) = 0
  statement_room (Notify c) = 0
  statement_room (Broadcast c) = 0
  statement_room (Print e) = room e
  statement_room Abort = 0

  pub block_room : Block → ℕ
  block_room Done = 0
  block_room (Then first rest) = max (statement_room first) (block_room rest)

  pub part_room : Part → ℕ
  part_room NoPart = 0
  part_room (SomePart b) = block_room b

-- the most of it in a program of at most 64 nestings: five levels of operators in each, and 16 arguments
abbrev pub most_room : ℕ
most_room = 342

abbrev mutual
  -- the procedures that a statement calls; a FORK is no call
  pub calls : Statement → List ℕ
  calls (Assign target e) = []
  calls (If e b part) = block_calls b ++ part_calls part
  calls (While e b) = block_calls b
  calls (Call q es into) = q ∷ []
  calls (Fork q es into) = []
  calls (Join e into part) = part_calls part
  calls (Return value) = []
  calls (Wait c) = []
  calls (Notify c) = []
  calls (Broadcast c) = []
  calls (Print e) = []
  calls Abort = []

  pub block_calls : Block → List ℕ
  block_calls Done = []
  block_calls (Then first rest) = calls first ++ block_calls rest

  pub part_calls : Part → List ℕ
  part_calls NoPart = []
  part_calls (SomePart b) = block_calls b
