use Rattle.program.specs.Views.{block_before}
use Rattle.source_sameness.proofs.Lists.{IsEnough}
use Rattle.source_sameness.proofs.statements.+statements.Given as goal

abbrev pub invariant-same_block-loop-i : goal.invariant-same_block-loop-i
invariant-same_block-loop-i l = IsEnough block_before l.a l.b l.i
