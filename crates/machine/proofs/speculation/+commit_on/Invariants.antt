-- The accesses become fewer.
use Rattle.std.proofs.Common.{length}
use Rattle.machine.proofs.speculation.+commit_on.Given as goal

abbrev pub decreases-commit_on : goal.decreases-commit_on
decreases-commit_on l = length l.accesses.now
