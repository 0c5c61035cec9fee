use Rattle.std.proofs.Common.{subst}
use Rattle.scanner.specs.declared.refusal.RefusalKind.TheVariants.{TypeMismatch}
use Rattle.syntax.specs.View.{expression_of}
use Rattle.types.specs.ExpressionFaults.{expression_faults}
use Rattle.types.specs.Faults.{Gathers, where_true}
use Rattle.types.specs.Typing.{differ, expression_type, expression_place}
use Rattle.types.proofs.Gathered.{gathers_both}
use Rattle.body_faults.proofs.values.value.Goals as goal

pub returns : goal.returns
returns c = λ s h.
    let e = expression_of c.args.tree.now in
    let a = c.judge_expression-judged.result.least in
    let b = c.note_where.result in
    gathers_both (expression_faults s e)
    (where_true (differ c.args.target (expression_type s e)) TypeMismatch (expression_place e)) c.args.least a b
    (c.judge_expression-judged.ensures.least s h)
    (subst (λ p. Gathers (where_true (differ c.args.target (expression_type s e)) TypeMismatch p) a b)
    c.expression_place.ensures
    (subst (λ k. Gathers (where_true (differ c.args.target k) TypeMismatch c.expression_place.result) a b)
    (c.judge_expression-judged.ensures.kind s h)
    (subst (λ x. Gathers (where_true x TypeMismatch c.expression_place.result) a b) c.differ-test.ensures
    c.note_where.ensures)))
