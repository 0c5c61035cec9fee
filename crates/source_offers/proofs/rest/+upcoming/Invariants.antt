use Rattle.std.proofs.Common.{length}
use Rattle.source_offers.proofs.rest.+upcoming.Given as goal

abbrev pub decreases-upcoming : goal.decreases-upcoming
decreases-upcoming l = length l.rest.now
