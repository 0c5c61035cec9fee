use Rattle.std.proofs.Common.{◌++◌, [], ap, ◌∙◌, subst}
use Rattle.syntax.specs.Tree.{NoIndex}
use Rattle.syntax.specs.View.{name_of, expression_of}
use Rattle.types.specs.ExpressionFaults.{use_faults}
use Rattle.types.specs.Faults.{Gathers}
use Rattle.types.specs.Scope.{meaning}
use Rattle.types.specs.Standings.{meaning_of}
use Rattle.types.specs.StatementFaults.{value_faults}
use Rattle.types.specs.Typing.{type_of_use}
use Rattle.types.proofs.Gathered.{gathers_both}
use Rattle.body_faults.proofs.Gathering.{lone, gathers_use}
use Rattle.body_faults.proofs.values.to_variable.Goals as goal

pub returns : goal.returns
returns c = λ s h.
    let n = name_of c.args.name in
    let e = expression_of c.args.tree.now in
    gathers_both (use_faults (meaning s n) NoIndex n.place ++ [])
    (value_faults s (type_of_use (meaning s n) NoIndex) e) c.args.least c.note-before.result c.value.result
    (lone (use_faults (meaning s n) NoIndex n.place) c.args.least c.note-before.result
    (gathers_use NoIndex (meaning_of c.meaning-meaning.result) (meaning s n) c.read_fault.result n.place c.args.least
    c.note-before.result (c.meaning-meaning.ensures s h) (c.read_fault.ensures n.place) c.note-before.ensures))
    (subst (λ t. Gathers (value_faults s t e) c.note-before.result c.value.result)
    (c.variable_type.ensures ∙ ap (λ m. type_of_use m NoIndex) (c.meaning-meaning.ensures s h)) (c.value.ensures s h))
