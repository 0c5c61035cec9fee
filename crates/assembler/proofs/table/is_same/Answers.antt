use Rattle.std.proofs.Common.{◌∙◌, sym, subst, ◌<◌, ◌≤◌}
use Rattle.std.proofs.lemmas.List.{take_all, take_more_same}
use Rattle.std.proofs.lemmas.Slice.Eq.{bytes_eq-Decides}
use Rattle.assembler.proofs.table.is_same.Goals as goal

pub loop-i-preserved : goal.loop-i-preserved
loop-i-preserved c = take_more_same c.args.text.now c.args.other.now c.loop-i.i 0 c.loop-i-test.true
    (subst (λ n. c.loop-i.i < n) c.if-text-other.false c.loop-i-test.true) c.loop-i.invariant c.if-text-i.false

pub returns : goal.returns
returns c = sym ((bytes_eq-Decides c.args.text.now c.args.other.now).1
    (sym (take_all c.loop-i.i c.args.text.now c.loop-i-test.false) ∙ c.loop-i.invariant
    ∙ take_all c.loop-i.i c.args.other.now (subst (λ n. n ≤ c.loop-i.i) c.if-text-other.false c.loop-i-test.false)))
