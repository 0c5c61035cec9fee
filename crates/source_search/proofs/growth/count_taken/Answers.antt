use Rattle.std.proofs.Common.{map, subst}
use Rattle.source_search.specs.Counting.{value_in}
use Rattle.source_search.specs.Growth.{AreSoMany}
use Rattle.source_search.proofs.Growing.{taken}
use Rattle.source_search.proofs.growth.count_taken.Goals as goal

pub returns-clause-taken : goal.returns-clause-taken
returns-clause-taken c = λ states are.
    let count = c.count_values-count.result in
    taken c.args.place c.args.parts.now states c.args.numbers.now are count
    (subst (λ vs. AreSoMany (map (value_in vs c.args.place) c.args.numbers.now) count) c.as_slice.ensures.value
    (subst (λ xs. AreSoMany xs count) c.in_ok-values.ensures c.count_values-count.ensures))
