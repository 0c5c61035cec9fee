use Rattle.std.proofs.Common.{◌≡◌, ◌==◌, false}
use Rattle.lowering.specs.Layout.{link_at}
use Rattle.proof_simulation.specs.Ordering.{any_below}
use Rattle.log_simulation.proofs.requests.is_link.Given as goal

abbrev pub invariant-loop-monitor : goal.invariant-loop-monitor
invariant-loop-monitor l = any_below l.monitor (λ m. link_at l.layout m == l.address.0) ≡ false
