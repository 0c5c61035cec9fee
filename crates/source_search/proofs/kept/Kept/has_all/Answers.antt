use Rattle.std.proofs.Common.{All, subst}
use Rattle.std.proofs.lemmas.List.{take_all}
use Rattle.std.proofs.lemmas.List.Elements.{All-more}
use Rattle.source_search.specs.Packed.{HasKey}
use Rattle.source_search.proofs.kept.Kept.has_all.Goals as goal

pub loop-packed-preserved : goal.loop-packed-preserved
loop-packed-preserved c =
    All-more (HasKey c.args.self.now.states.items) c.args.states.now c.loop-packed.packed-index c.packed-item.result
    c.loop-packed-test.true c.loop-packed.invariant
    (subst (HasKey c.args.self.now.states.items) c.packed-item.is (c.is_noted.ensures c.if-not-is_noted.false))

pub returns : goal.returns
returns c = λ e.
    subst (All (HasKey c.args.self.now.states.items))
    (take_all c.loop-packed.packed-index c.args.states.now c.loop-packed-test.false) c.loop-packed.invariant
