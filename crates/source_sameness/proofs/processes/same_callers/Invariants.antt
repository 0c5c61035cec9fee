use Rattle.source_offers.specs.Frames.{callers_from}
use Rattle.source_sameness.proofs.Lists.{IsEnough}
use Rattle.source_sameness.proofs.processes.same_callers.Given as goal

abbrev pub invariant-loop-i : goal.invariant-loop-i
invariant-loop-i l = IsEnough callers_from l.a l.b l.i
