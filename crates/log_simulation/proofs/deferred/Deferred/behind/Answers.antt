use Rattle.std.proofs.Common.{◌∙◌, sym, refl, arith}
use Rattle.log_simulation.proofs.Records.{action_more, fault_first}
use Rattle.log_simulation.proofs.deferred.Deferred.behind.Goals as goal

pub returns-in-Fault-2 : goal.returns-in-Fault-2
returns-in-Fault-2 c = λ ks o says is few.
    let was = says.count in
    fault_first c.args.self _ ks o says c.if-self.false (sym c.in-Fault-2.is ∙ is)
    (omega (arith, c.saturating_add-count.ensures, was, few)) refl

pub returns-in-Action : goal.returns-in-Action
returns-in-Action c = λ ks o says is few.
    let was = says.count in
    action_more c.args.self _ ks o says (sym c.in-Action.is ∙ is)
    (omega (arith, c.saturating_add-count.ensures, was, few)) refl
