-- How deep statements stand in one another.
use Rattle.std.specs.Prelude.{ℕ, ◌+◌, max}
use Rattle.program.specs.Trees.{Statement, Assign, If, While, Call, Fork, Join, Return, Wait, Notify, Broadcast, Print}
use Rattle.program.specs.Trees.{Abort, Block, Done, Then, Part, NoPart, SomePart}

-- how deep IF, WHILE and ABORTED stand in one another
abbrev mutual
  pub nesting : Statement → ℕ
  nesting (Assign target e) = 0
  nesting (If e b part) = 1 + max (block_nesting b) (part_nesting part)
  nesting (While e b) = 1 + block_nesting b
  nesting (Call q es into) = 0
  nesting (Fork q es into) = 0
  nesting (Join e into part) = 1 + part_nesting part
  nesting (Return value) = 0
  nesting (Wait c) = 0
  nesting (Notify c) = 0
  nesting (Broadcast c) = 0
  nesting (Print e) = 0
  nesting Abort = 0

  pub block_nesting : Block → ℕ
  block_nesting Done = 0
  block_nesting (Then first rest) = max (nesting first) (block_nesting rest)

  pub part_nesting : Part → ℕ
  part_nesting NoPart = 0
  part_nesting (SomePart b) = block_nesting b
