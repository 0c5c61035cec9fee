use Rattle.std.proofs.Common.{◌≡◌, take}
use Rattle.source_states.specs.States.{numbered}
use Rattle.source_states.proofs.copying.copies.Given as goal

abbrev pub invariant-loop-number : goal.invariant-loop-number
invariant-loop-number l = numbered l.copies.items ≡ numbered (take l.number-index l.processes)
