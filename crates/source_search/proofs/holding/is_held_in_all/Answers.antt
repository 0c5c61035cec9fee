use Rattle.std.proofs.Common.{All, subst}
use Rattle.std.proofs.lemmas.List.{take_all}
use Rattle.std.proofs.lemmas.List.Elements.{All-map, All-more}
use Rattle.proof_exploration.specs.Blocking.{IsHeldUp}
use Rattle.source_offers.specs.Stages.{process_of}
use Rattle.source_search.specs.Packed.{unpacked}
use Rattle.source_search.proofs.holding.is_held_in_all.Goals as goal

pub loop-packed-preserved : goal.loop-packed-preserved
loop-packed-preserved c = λ p.
    All-more (λ x. IsHeldUp p (unpacked c.args.parts.now x) c.args.number (process_of c.args.process.now))
    c.args.states.now c.loop-packed.packed-index c.packed-item.result c.loop-packed-test.true (c.loop-packed.invariant p)
    (subst (λ x. IsHeldUp p (unpacked c.args.parts.now x) c.args.number (process_of c.args.process.now))
    c.packed-item.is (c.is_held_there.ensures c.if-not-is_held_there.false p))

pub returns : goal.returns
returns c = λ e p.
    All-map (λ s. IsHeldUp p s c.args.number (process_of c.args.process.now)) (unpacked c.args.parts.now)
    c.args.states.now
    (subst (All (λ x. IsHeldUp p (unpacked c.args.parts.now x) c.args.number (process_of c.args.process.now)))
    (take_all c.loop-packed.packed-index c.args.states.now c.loop-packed-test.false) (c.loop-packed.invariant p))
