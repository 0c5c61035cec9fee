use Rattle.std.proofs.Common.{rules}
use Rattle.resolver.proofs.monitors.monitor.Goals as goal

pub returns : goal.returns
returns c = search rules
