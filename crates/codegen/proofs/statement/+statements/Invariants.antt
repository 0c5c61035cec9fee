use Rattle.std.proofs.Common.{◌≡◌, ◌++◌, drop, length}
use Rattle.program.specs.Views.{block_in}
use Rattle.lowering.specs.Statements.{block_code}
use Rattle.codegen.specs.Sites.{setting_at}
use Rattle.codegen.proofs.statement.+statements.Given as goal

-- what is made, and the code of what is left, is the code of all
abbrev pub invariant-block-loop-s : goal.invariant-block-loop-s
invariant-block-loop-s l =
    let c = setting_at l.site in
    l.code.items ++ block_code c (block_in (drop l.s-index l.statements)) (length l.code.items)
    ≡ l.fn.code.items ++ block_code c (block_in l.statements) (length l.fn.code.items)
