use Rattle.std.proofs.Common.{All, subst}
use Rattle.std.proofs.lemmas.List.{take_all}
use Rattle.std.proofs.lemmas.List.Elements.{All-map, All-more}
use Rattle.source_search.specs.Ends.{IsEnded}
use Rattle.source_search.specs.Packed.{unpacked}
use Rattle.source_search.specs.declared.packed.Packed.{Packed}
use Rattle.source_search.proofs.lost.none_ended.Goals as goal

pub loop-packed-preserved : goal.loop-packed-preserved
loop-packed-preserved c =
    let P = λ (x : Packed). IsEnded (unpacked c.args.parts.now x) → ⊥ in
    All-more P c.args.states.now c.loop-packed.packed-index c.packed-item.result c.loop-packed-test.true
    c.loop-packed.invariant (subst P c.packed-item.is (c.are_over.ensures.goes_on c.if-are_over.false))

pub returns : goal.returns
returns c = λ e.
    All-map (λ s. IsEnded s → ⊥) (unpacked c.args.parts.now) c.args.states.now
    (subst (All (λ (x : Packed). IsEnded (unpacked c.args.parts.now x) → ⊥))
    (take_all c.loop-packed.packed-index c.args.states.now c.loop-packed-test.false) c.loop-packed.invariant)
