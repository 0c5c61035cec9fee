use Rattle.std.proofs.Common.{ap, sym, ◌∙◌}
use Rattle.lowering.specs.Layout.{words_in}
use Rattle.layout.proofs.Smallness.{all_words_seen}
use Rattle.layout.proofs.placing.Layout.words.Goals as goal

pub returns : goal.returns
returns c =
    (rw (sym c.deref-place-items.ensures.value)
    (all_words_seen c.loop-place.words.items c.deref-place-items.result.now c.loop-place.place-index
    c.loop-place-test.false c.loop-place.invariant))
    ∙ ap words_in c.self.view_is
