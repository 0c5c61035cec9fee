use Rattle.std.proofs.Common.{◌≡◌, Some, arith, below_more, suc}
use Rattle.proof_image_search.specs.Searching.{IsExitWord}
use Rattle.robustexit.specs.declared.phase.ExitPhase.TheVariants.{Ended}
use Rattle.locals.specs.Threads.{Exits}
use Rattle.image_states.specs.Packed.{thread_at}
use Rattle.image_states.proofs.Sparing.{spared_all}
use Rattle.image_states.proofs.parts.Parts.spares.Goals as goal

pub loop-k-preserved : goal.loop-k-preserved
loop-k-preserved c =
    below_more (λ j. thread_at c.args.self.now.locals.items c.args.packed.now.parts.items (suc j) ≡ Some (Exits Ended)
    → IsExitWord (suc j) c.args.a.0 → ⊥) c.loop-k.k c.loop-k.invariant (c.used.ensures c.if-used.false)

pub returns : goal.returns
returns c = λ e.
    spared_all c.args.image.now c.args.self.now c.args.packed.now c.loop-k.k c.args.a.0
    (omega (arith, c.loop-k-test.false)) c.loop-k.invariant
