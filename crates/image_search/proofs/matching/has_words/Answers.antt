use Rattle.std.proofs.Common.{◌≡◌, ◌∙◌, arith, below_more, get_or, length, sym}
use Rattle.std.proofs.lemmas.List.{ext_get_or}
use Rattle.std.proofs.lemmas.Option.{get_or_from_slice_get}
use Rattle.image_search.proofs.matching.has_words.Goals as goal

pub loop-at-init : goal.loop-at-init
loop-at-init c = λ j less. absurd (omega (arith, less))

pub loop-at-preserved : goal.loop-at-preserved
loop-at-preserved c =
    below_more (λ j. get_or c.args.words.now j 0 ≡ get_or c.args.machine.now.words j 0) c.loop-at.at c.loop-at.invariant
    (get_or_from_slice_get c.args.words.now c.loop-at.at c.load-word.result 0 c.load-word.ensures ∙ sym c.if-word.false
    ∙ c.word.ensures)

pub returns : goal.returns
returns c = λ e.
    let size : length c.args.words.now ≡ length c.args.machine.now.words =
    sym c.len-size.ensures ∙ sym c.if-memory_len-size.false ∙ c.memory_len.ensures.value in
    let count = c.in-Ok.ensures.1 in
    ext_get_or 0 c.args.words.now c.args.machine.now.words size
    (λ i less. c.loop-at.invariant i (omega (arith, less, c.loop-at-test.false, c.len-size.ensures, count)))
