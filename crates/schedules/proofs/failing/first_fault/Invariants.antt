use Rattle.std.proofs.Common.{◌<◌, ℕ}
use Rattle.words.specs.declared.outcome.Fault.{Fault}
use Rattle.machine.specs.Views.{concrete}
use Rattle.schedules.specs.Failing.{HasFaulted}
use Rattle.schedules.proofs.failing.first_fault.Given as goal

-- who aborted by a fault has a greater number
abbrev pub invariant-loop-before : goal.invariant-loop-before
invariant-loop-before l = (t : ℕ) (fault : Fault) → HasFaulted (concrete l.last) t fault → l.before < t
