use Rattle.std.proofs.Common.{subst}
use Rattle.syntax.specs.Tree.{At}
use Rattle.syntax.specs.View.{name_of, expression_of}
use Rattle.types.specs.Faults.{Gathers}
use Rattle.types.specs.Scope.{meaning}
use Rattle.types.specs.StatementFaults.{value_faults}
use Rattle.types.specs.Typing.{type_of_use}
use Rattle.types.proofs.Gathered.{gathers_both}
use Rattle.body_faults.specs.Operands.{element}
use Rattle.body_faults.proofs.values.to_element.Goals as goal

pub returns : goal.returns
returns c = λ s h.
    let n = name_of c.args.target.now.name in
    let i = expression_of c.args.target.now.index in
    let e = expression_of c.args.tree.now in
    let judged = c.element-judged.result in
    gathers_both (element s n i) (value_faults s (type_of_use (meaning s n) (At i)) e) c.args.least
    judged.least c.value.result (c.element-judged.ensures.least s h)
    (subst (λ t. Gathers (value_faults s t e) judged.least c.value.result)
    (c.element-judged.ensures.kind s h) (c.value.ensures s h))
