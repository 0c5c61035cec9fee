use Rattle.source_offers.specs.Rests.{stacked_blocks}
use Rattle.source_sameness.proofs.Lists.{IsEnough}
use Rattle.source_sameness.proofs.processes.same_rest.Given as goal

abbrev pub invariant-loop-i : goal.invariant-loop-i
invariant-loop-i l = IsEnough stacked_blocks l.a l.b l.i
