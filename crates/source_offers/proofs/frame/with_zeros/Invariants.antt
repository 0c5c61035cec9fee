use Rattle.std.proofs.Common.{◌≡◌, ◌++◌, take}
use Rattle.meaning.specs.Processes.{zeros}
use Rattle.source_offers.proofs.frame.with_zeros.Given as goal

abbrev pub invariant-loop : goal.invariant-loop
invariant-loop l = l.locals.items ≡ l.fn.arguments.items ++ zeros (take l.index l.types)
