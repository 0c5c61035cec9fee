use Rattle.std.proofs.Common.{◌≤◌, length, ap, sym, ◌∙◌}
use Rattle.lowering.specs.Layout as layouts
use Rattle.layout.proofs.Smallness.{no_link}
use Rattle.layout.proofs.placing.Layout.link.Goals as goal

pub returns-in-None-clause-is : goal.returns-in-None-clause-is
returns-in-None-clause-is c =
    let past : length c.self.inside.monitors.items ≤ c.args.monitor =
    rw (sym c.deref.ensures.value) c.in-None.ensures.lookup.3 in
    sym (no_link c.self.inside.version c.self.inside.monitors.items c.self.inside.pieces c.args.monitor past)
    ∙ ap (λ l. layouts.link_at l c.args.monitor) c.self.view_is
