-- The accesses become fewer.
use Rattle.std.proofs.Common.{length}
use Rattle.machine.proofs.speculation.+make_all.Given as goal

abbrev pub decreases-make_all : goal.decreases-make_all
decreases-make_all l = length l.accesses.now
