use Rattle.std.proofs.Common.{◌++◌, ◌∙◌, ap}
use Rattle.source_search.specs.Counting.{listed}
use Rattle.source_search.proofs.Growing.{numbers_more}
use Rattle.source_search.proofs.growth.parts_at.Goals as goal

pub loop-packed-preserved : goal.loop-packed-preserved
loop-packed-preserved c =
    numbers_more c.args.place c.args.states.now c.loop-packed.packed-index c.packed-item.result
    c.loop-packed.numbers.items c.push_some.new.numbers.items c.loop-packed-test.true c.packed-item.is
    c.loop-packed.invariant
    (c.in_ok-push_some.ensures ∙ ap (λ o. c.loop-packed.numbers.items ++ listed o) c.part_of.ensures)
