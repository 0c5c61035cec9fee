use Rattle.program.specs.Views.{program_of}
use Rattle.source_search.specs.Ending.{IsLostRun}
use Rattle.source_search.proofs.ending.shorten.Given as goal

abbrev pub invariant-loop : goal.invariant-loop
invariant-loop l = IsLostRun (program_of l.checked.tree) l.outside l.run.items
