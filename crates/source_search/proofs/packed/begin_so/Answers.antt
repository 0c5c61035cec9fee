use Rattle.std.proofs.Common.{◌≡◌, ◌<◌, ◌∙◌, Some, ap, arith, below_more, get_or, length, slice_get, slice_set, sym}
use Rattle.std.proofs.lemmas.Option.{slice_get-get_or}
use Rattle.source_search.proofs.packed.begin_so.Goals as goal

pub loop-k-preserved : goal.loop-k-preserved
loop-k-preserved c =
    let numbers = c.args.numbers.now in
    let k = c.loop-k.k in
    let same : get_or numbers k 0 ≡ c.number_at.result = omega (arith, c.if-numbers-k.false) in
    let less : k < length numbers = omega (arith, c.loop-k-test.true, c.if-numbers-others.false) in
    below_more (λ j. slice_get numbers j ≡ slice_get (slice_set c.args.others.now c.args.place c.args.part) j) k
    c.loop-k.invariant
    (slice_get-get_or numbers k 0 less ∙ ap Some same ∙ sym c.number_at.ensures)

pub returns : goal.returns
returns c = λ e j l. c.loop-k.invariant j (omega (arith, l, c.loop-k-test.false))
