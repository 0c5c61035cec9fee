use Rattle.std.proofs.Common.{Some, sym, subst}
use Rattle.syntax.specs.View.{expression_of}
use Rattle.types.specs.CallFaults.{return_faults}
use Rattle.types.specs.ExpressionFaults.{expression_faults}
use Rattle.types.specs.Faults.{Gathers, mismatch}
use Rattle.types.proofs.Gathered.{gathers_both}
use Rattle.body_faults.proofs.simple.some_value.Goals as goal

pub returns-in-Some : goal.returns-in-Some
returns-in-Some c = λ s h.
    subst (λ r. Gathers (return_faults s c.args.place r (Some (expression_of c.args.tree.now))) c.args.least
    c.typed.result) (sym c.in-Some.is) (c.typed.ensures s h)

pub returns-in-None : goal.returns-in-None
returns-in-None c = λ s h.
    subst (λ r. Gathers (return_faults s c.args.place r (Some (expression_of c.args.tree.now))) c.args.least
    c.expression.result) (sym c.in-None.is)
    (gathers_both (mismatch c.args.place) (expression_faults s (expression_of c.args.tree.now)) c.args.least
    c.note-first.result c.expression.result c.note-first.ensures (c.expression.ensures s h))
