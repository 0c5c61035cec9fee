use Rattle.std.proofs.Common.{◌∙◌, sym, arith}
use Rattle.types.proofs.Compared.{found, none_more}
use Rattle.types.proofs.table.position.Goals as goal

pub returns-then-is_same : goal.returns-then-is_same
returns-then-is_same c names h l = sym (found names c.args.texts.now c.loop-number.number _ c.args.text.now h
    (grind (arith, c.loop-number-test.true, c.min-number-end.ensures)) (c.loop-number.invariant names h)
    (sym c.is_same.ensures ∙ c.if-is_same.true))

pub loop-number-preserved : goal.loop-number-preserved
loop-number-preserved c names h = none_more names c.args.texts.now c.loop-number.number _ c.args.text.now h
    (grind (arith, c.loop-number-test.true, c.min-number-end.ensures)) (c.loop-number.invariant names h)
    (sym c.is_same.ensures ∙ c.if-is_same.false)
