use Rattle.std.proofs.Common.{◌≤◌, All, arith, length, subst}
use Rattle.std.proofs.lemmas.List.{take_all}
use Rattle.image_states.specs.declared.packed.Packed.{Packed as PackedOf}
use Rattle.image_search.proofs.Flagging.{all_one_more}
use Rattle.image_search.proofs.living.are_within.Goals as goal

pub loop-packed-preserved : goal.loop-packed-preserved
loop-packed-preserved c =
    all_one_more (λ (x : PackedOf). length x.places.items ≤ c.args.count) c.args.states.now c.loop-packed.packed-index
    c.packed-item.result c.loop-packed-test.true c.packed-item.is c.loop-packed.invariant
    (omega (arith, c.if-len-count.false, c.len.ensures, c.packed-item.result.places.ok.0))

pub returns : goal.returns
returns c = λ e. subst (All (λ (x : PackedOf). length x.places.items ≤ c.args.count))
    (take_all c.loop-packed.packed-index c.args.states.now c.loop-packed-test.false) c.loop-packed.invariant
