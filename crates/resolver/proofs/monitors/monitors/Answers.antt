use Rattle.std.proofs.Common.{◌≡◌, ◌+◌, ◌∙◌, ap, sym, arith, length, map, slice_get, Some, Option}
use Rattle.std.proofs.lemmas.List.{length-map}
use Rattle.program.specs.Trees.{Monitor}
use Rattle.syntax.specs.View.{monitor_of, monitor_procedure_of, member_of, recover_of}
use Rattle.syntax.specs.Whole.{unit_of}
use Rattle.types.specs.Kinds.{member_kinds}
use Rattle.types.specs.Pieces.{first_piece}
use Rattle.callees.proofs.Few.{few_procedures}
use Rattle.callees.proofs.Growing.{monitor_here}
use Rattle.resolver.proofs.Resolving.{first_here, recover_there, monitors_step}
use Rattle.resolver.proofs.monitors.monitors.Goals as goal

pub monitor-requires : goal.monitor-requires
monitor-requires c =
    let u = unit_of c.args.unit.now in
    let i = c.loop-number.number in
    let d = c.tree-item.result in
    let at : slice_get u.monitors i ≡ Some (monitor_of d) =
    sym (ap (λ xs. slice_get (map monitor_of xs) i) c.deref-tree-items.ensures.value)
    ∙ monitor_here c.deref-tree-items.result.now i d c.loop-number-test.true c.tree-item.is in
    let few = few_procedures u i (monitor_of d) c.requires.few at in
    let count = length-map d.procedures.items monitor_procedure_of in
    let trees = length-map c.args.unit.now.monitors.items monitor_of in
    let all = ap length c.deref-tree-items.ensures.value in
    let first = first_here u c.args.callees.now i c.index.result.now c.requires (omega arith) c.index.ensures in
    omega arith

pub loop-number-preserved : goal.loop-number-preserved
loop-number-preserved c =
    let u = unit_of c.args.unit.now in
    let i = c.loop-number.number in
    let d = c.tree-item.result in
    let count = length-map d.procedures.items monitor_procedure_of in
    let trees = length-map c.args.unit.now.monitors.items monitor_of in
    let all = ap length c.deref-tree-items.ensures.value in
    let first = first_here u c.args.callees.now i c.index.result.now c.requires (omega arith) c.index.ensures in
    let behind = c.index.result.now.first_piece + length d.procedures.items in
    let is : behind ≡ first_piece u i + length (monitor_of d).procedures = omega arith in
    let with : Option _ → Monitor =
    λ o. record { members = member_kinds (map member_of d.members.items); recover = o } in
    monitors_step u _ _ c.in_ok-monitor.field-0 c.deref-tree-items.result.now i d c.loop-number-test.true
    c.tree-item.is c.in_ok-push.ensures.items
    (c.in_ok-monitor.ensures ∙ ap with (recover_there u i (monitor_of d) behind (recover_of d.recover) is))
    c.loop-number.invariant
