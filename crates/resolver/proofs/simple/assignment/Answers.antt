use Rattle.std.proofs.Common.{◌∙◌, ap}
use Rattle.program.specs.Trees.{Assign}
use Rattle.program.specs.Views.{expression_of}
use Rattle.syntax.specs.View as v
use Rattle.types.specs.ExpressionFaults.{expression_faults}
use Rattle.types.specs.StatementFaults.{target_faults}
use Rattle.types.specs.Statements.{target}
use Rattle.types.specs.Typing.{expression_place}
use Rattle.resolver.proofs.simple.assignment.Goals as goal

pub returns : goal.returns
returns c = λ s h.
    let name = v.variable_of c.args.variable.now in
    let tree = v.expression_of c.args.tree.now in
    let aim = c.in_ok-aim.ensures s h in
    let value = c.in_ok-value.ensures s h in (
      ap (λ y. Assign y (expression_of c.in_ok-value.value.expression)) aim.0
          ∙ ap (Assign (target s name)) value.0,
      c.takes-is_clean.ensures _ _ _ (target_faults s name) (expression_faults s tree) (expression_place tree)
          aim.1 aim.2 value,
    )
