use Rattle.syntax.specs.View.{expression_of}
use Rattle.types.specs.ExpressionFaults.{expression_faults}
use Rattle.types.specs.Typing.{expression_type, expression_place}
use Rattle.body_faults.proofs.Gathering.{gathers_operand}
use Rattle.body_faults.proofs.values.typed.Goals as goal

pub returns : goal.returns
returns c = λ s h.
    let e = expression_of c.args.tree.now in
    let judged = c.judge_expression-judged.result in
    gathers_operand (expression_faults s e) c.args.wanted judged.kind (expression_type s e)
    c.expression_place.result (expression_place e) c.args.least judged.least c.operand.result
    (c.judge_expression-judged.ensures.kind s h) c.expression_place.ensures
    (c.judge_expression-judged.ensures.least s h) c.operand.ensures
