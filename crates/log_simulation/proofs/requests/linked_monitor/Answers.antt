-- The last of the monitors so far whose link word has the address.
use Rattle.std.proofs.Common.{◌≡◌, ◌∙◌, ap, arith, sym}
use Rattle.lowering.specs.Layout.{link_at}
use Rattle.proof_simulation.specs.Kills.{linked_monitor}
use Rattle.log_simulation.proofs.Below.{linked_here, linked_not}
use Rattle.log_simulation.proofs.requests.linked_monitor.Goals.{then-link-address, else-link-address}
use Rattle.log_simulation.proofs.requests.linked_monitor.Goals as goal

pub loop-monitor-preserved : goal.loop-monitor-preserved
loop-monitor-preserved c = record {
  found = λ p layout.
      let m = c.loop-monitor.monitor in
      let a = c.args.address in
      let link = c.link.ensures.is ∙ ap (λ l. link_at l m) layout in
      elim c.if-link-address.branch [
        | then-link-address w ↦ w.found-is ∙ linked_here p a m (sym link ∙ w.if-link-address.true)
        | else-link-address w ↦ w.found-is
            ∙ linked_not p a m c.loop-monitor.found (λ e. w.if-link-address.false (link ∙ e))
            (c.loop-monitor.invariant.found p layout)
      ];
}

pub returns : goal.returns
returns c = λ p layout.
    let within = c.loop-monitor.auto.monitor-end in
    let past = c.loop-monitor-test.false in
    let all : c.loop-monitor.monitor ≡ c.args.monitors = omega (arith, within, past) in
    c.loop-monitor.invariant.found p layout ∙ ap (linked_monitor p c.args.address) all
