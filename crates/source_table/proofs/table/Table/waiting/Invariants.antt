use Rattle.std.proofs.Common.{drop}
use Rattle.source_table.proofs.Listing.{IsListed}
use Rattle.source_table.proofs.table.Table.waiting.Given as goal

abbrev pub invariant-loop-process : goal.invariant-loop-process
invariant-loop-process l =
    IsListed l.self.waits l.condition l.waiting.items (drop l.process-index l.process-items)
