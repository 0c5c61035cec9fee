-- The accesses become fewer.
use Rattle.std.proofs.Common.{length}
use Rattle.machine.proofs.speculation.+take_back.Given as goal

abbrev pub decreases-take_back : goal.decreases-take_back
decreases-take_back l = length l.accesses.now
