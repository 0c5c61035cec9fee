use Rattle.std.proofs.Common.{◌≡◌, ◌∙◌, Some, ap, slice_get, subst}
use Rattle.std.proofs.lemmas.List.{take_all}
use Rattle.sparse_memory.specs.Spread.{spread}
use Rattle.sparse_memory.proofs.Spreading.{take_none, word_more}
use Rattle.sparse_memory.proofs.memory.word_in.Goals as goal

pub loop-entry-init : goal.loop-entry-init
loop-entry-init c = λ words none.
    ap (λ es. slice_get (spread words es) c.args.a) (take_none c.args.entries.now) ∙ none

pub loop-entry-preserved : goal.loop-entry-preserved
loop-entry-preserved c =
    word_more c.args.entries.now c.loop-entry.entry-index _ c.args.a c.loop-entry.word c.latest-next.result
    c.loop-entry-test.true c.loop-entry.invariant c.latest-next.ensures

pub returns : goal.returns
returns c = λ words none.
    subst (λ es. slice_get (spread words es) c.args.a ≡ Some c.loop-entry.word)
    (take_all c.loop-entry.entry-index c.args.entries.now c.loop-entry-test.false) (c.loop-entry.invariant words none)
