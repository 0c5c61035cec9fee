use Rattle.std.proofs.Common.{length}
use Rattle.source_offers.proofs.ahead.+fork_with.Given as goal

abbrev pub decreases-fork_with : goal.decreases-fork_with
decreases-fork_with l = length l.arguments.now
