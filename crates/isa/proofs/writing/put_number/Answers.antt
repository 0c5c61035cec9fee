use Rattle.std.proofs.Common.{◌++◌, refl, sym, ap, ◌∙◌, arith}
use Rattle.isa.proofs.NumberLaws.{groups_next, groups_last}
use Rattle.isa.proofs.writing.put_number.Goals as goal

pub loop-rest-init : goal.loop-rest-init
loop-rest-init c = (4, omega arith, refl)

pub loop-rest-preserved : goal.loop-rest-preserved
loop-rest-preserved c =
    let i = c.loop-rest.invariant in
    rw c.in_ok-push.ensures.items (groups_next i.0 c.loop-rest.rest c.loop-rest.out.items _ c.loop-rest-test.true i.1
    i.2)

pub returns : goal.returns
returns c =
    let i = c.loop-rest.invariant in
    rw c.in_ok-push-2.ensures.items (sym (ap (λ t. c.loop-rest.out.items ++ t) (groups_last i.0 c.loop-rest.rest
    c.loop-rest-test.false)) ∙ i.2)
