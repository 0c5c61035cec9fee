use Rattle.std.proofs.Common.{length}
use Rattle.source_offers.proofs.monitors.+add_monitors.Given as goal

abbrev pub decreases-add_monitors : goal.decreases-add_monitors
decreases-add_monitors l = length l.callers.now
