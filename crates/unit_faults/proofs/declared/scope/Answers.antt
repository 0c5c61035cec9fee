use Rattle.std.proofs.Common.{◌∙◌}
use Rattle.std.proofs.lemmas.Result.{IfOk-weaker}
use Rattle.syntax.specs.View.{monitor_of}
use Rattle.types.specs.Names.{monitor_scope}
use Rattle.unit_faults.proofs.Uses.{repeated_of}
use Rattle.unit_faults.proofs.Views.{scope_names}
use Rattle.unit_faults.proofs.declared.scope.Goals as goal

pub returns : goal.returns
returns c = IfOk-weaker c.repeated.result _ _
    (λ r h. repeated_of _ _ (monitor_scope (monitor_of c.args.monitor.now)) c.args.least r
    (c.deref.ensures.value ∙ c.in_ok-names.ensures) (scope_names c.args.monitor.now) h) c.repeated.ensures
