use Rattle.std.proofs.Common.{sym, subst}
use Rattle.syntax.specs.Tree.{Assign, At}
use Rattle.syntax.specs.View.{name_of, expression_of, variable_of}
use Rattle.types.specs.CallFaults.{statement_faults}
use Rattle.types.specs.Faults.{Gathers}
use Rattle.body_faults.proofs.values.assignment.Goals as goal

pub returns-in-Name : goal.returns-in-Name
returns-in-Name c = λ s h.
    subst (λ y. Gathers (statement_faults s (Assign (variable_of y) (expression_of c.args.tree.now))) c.args.least
    c.to_variable.result) (sym c.in-Name.is) (c.to_variable.ensures s h)

pub returns-in-Element : goal.returns-in-Element
returns-in-Element c = λ s h.
    subst (λ y. Gathers (statement_faults s (Assign (variable_of y) (expression_of c.args.tree.now))) c.args.least
    c.to_element.result) (sym c.in-Element.is)
    (subst (λ y. Gathers (statement_faults s (Assign (record {
      name = name_of y.name;
      index = At
          (expression_of y.index);
    }) (expression_of c.args.tree.now))) c.args.least c.to_element.result)
    c.deref.ensures (c.to_element.ensures s h))
