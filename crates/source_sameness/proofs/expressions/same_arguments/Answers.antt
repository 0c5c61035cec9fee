use Rattle.std.proofs.Common.{◌∙◌, ap, arith, map, sym}
use Rattle.std.proofs.lemmas.List.{drop_all}
use Rattle.program.specs.Views.{expression_of}
use Rattle.source_sameness.proofs.Lists.{same_heads, split_at}
use Rattle.source_sameness.proofs.expressions.same_arguments.Goals as goal

pub loop-i-preserved : goal.loop-i-preserved
loop-i-preserved c = λ rest.
    c.loop-i.invariant (same_heads expression_of c.args.a.now c.args.b.now c.loop-i.i c.index-a-i.result
    c.index-b-i.result
    (split_at c.args.a.now c.loop-i.i c.index-a-i.result c.loop-i-test.true c.index-a-i.is)
    (split_at c.args.b.now c.loop-i.i c.index-b-i.result (omega (arith, c.loop-i-test.true, c.if-a-b.false))
    c.index-b-i.is)
    (c.same_expression.ensures c.if-not-same_expression.false) rest)

pub returns : goal.returns
returns c = λ e.
    c.loop-i.invariant (ap (map expression_of) (drop_all c.loop-i.i c.args.a.now c.loop-i-test.false)
    ∙ sym (ap (map expression_of) (drop_all c.loop-i.i c.args.b.now
    (omega (arith, c.loop-i-test.false, c.if-a-b.false)))))
