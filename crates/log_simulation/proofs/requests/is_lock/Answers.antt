use Rattle.std.proofs.Common.{◌∙◌, ◌==◌, ◌+◌, ap, sym, arith, length}
use Rattle.std.proofs.lemmas.Bool.{eq-eqb}
use Rattle.lowering.specs.Layout.{layout_of, link_at}
use Rattle.log_simulation.proofs.Below.{found_below}
use Rattle.log_simulation.proofs.requests.is_lock.Goals as goal

pub returns-then-link-address : goal.returns-then-link-address
returns-then-link-address c = λ p layout monitors.
    let m = c.loop-monitor.monitor in
    found_below (length p.monitors) (λ i. link_at (layout_of p) i + 1 == c.args.address.0) m
    (omega (arith, c.loop-monitor-test.true, monitors))
    (eq-eqb (link_at (layout_of p) m + 1) c.args.address.0
    (ap (λ n. n + 1) (sym (ap (λ l. link_at l m) layout) ∙ sym c.link.ensures.is) ∙ c.if-link-address.true))
