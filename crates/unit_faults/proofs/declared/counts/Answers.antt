use Rattle.std.proofs.Common.{◌∙◌}
use Rattle.scanner.specs.declared.refusal.RefusalKind.TheVariants.{Limit}
use Rattle.syntax.specs.Whole.{unit_of}
use Rattle.types.specs.Judgement.{IsPast}
use Rattle.types.specs.Limits.{most_monitors, most_procedures}
use Rattle.types.specs.Names.{monitor_names, all_procedure_names}
use Rattle.unit_faults.specs.Collected.{OfKind}
use Rattle.unit_faults.proofs.Collecting.{collects_sum}
use Rattle.unit_faults.proofs.Uses.{past_of}
use Rattle.unit_faults.proofs.Views.{monitors_seen, procedures_seen}
use Rattle.unit_faults.proofs.declared.counts.Goals as goal

pub returns : goal.returns
returns c =
    let u = c.args.unit.now in
    let monitors = monitor_names (unit_of u) in
    let procedures = all_procedure_names (unit_of u) in
    collects_sum (OfKind Limit (IsPast most_monitors monitors)) (OfKind Limit (IsPast most_procedures procedures))
    c.args.least c.past-few.result c.past.result
    (past_of most_monitors _ _ monitors c.args.least c.past-few.result (c.deref.ensures.value
    ∙ c.in_ok-monitors.ensures)
    (monitors_seen u.monitors.items) c.past-few.ensures)
    (past_of most_procedures _ _ procedures c.past-few.result c.past.result
    (c.deref-2.ensures.value ∙ c.in_ok-procedures.ensures) (procedures_seen u.monitors.items u.procedures.items)
    c.past.ensures)
