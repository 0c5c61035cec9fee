use Rattle.std.proofs.Common.{◌∙◌}
use Rattle.callees.proofs.Growing.{on_ok}
use Rattle.callees.proofs.declared.Declared.push.Goals as goal

pub returns-clause-inner : goal.returns-clause-inner
returns-clause-inner c = on_ok c.push_monitor.result _ (
  c.in_ok-names.names,
  c.in_ok-push.ensures.items,
  c.in_ok-names.ensures.names,
  c.in_ok-names.ensures.first ∙ c.len.ensures ∙ c.args.self.now.pieces.ok.0,
)
