use Rattle.std.proofs.Common.{take}
use Rattle.callgraph.specs.Marks.{Marks}
use Rattle.callgraph.proofs.reach.mark_all.Given as goal

abbrev pub invariant-loop-procedure : goal.invariant-loop-procedure
invariant-loop-procedure l =
    Marks (take l.procedure-index l.procedures) l.initial.marks l.initial.pending.items l.marks l.pending.items
