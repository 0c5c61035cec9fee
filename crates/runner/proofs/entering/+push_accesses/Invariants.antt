-- The accesses become fewer.
use Rattle.std.proofs.Common.{length}
use Rattle.runner.proofs.entering.+push_accesses.Given as goal

abbrev pub decreases-push_accesses : goal.decreases-push_accesses
decreases-push_accesses l = length l.made.now
