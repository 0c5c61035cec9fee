use Rattle.std.proofs.Common.{All, take}
use Rattle.program.specs.Trees.{Program}
use Rattle.proof_exploration.specs.Blocking.{IsHeldUp}
use Rattle.source_offers.specs.Stages.{process_of}
use Rattle.source_search.specs.Packed.{unpacked}
use Rattle.source_search.proofs.holding.is_held_in_all.Given as goal

abbrev pub invariant-loop-packed : goal.invariant-loop-packed
invariant-loop-packed l = (p : Program)
    → All (λ x. IsHeldUp p (unpacked l.parts x) l.number (process_of l.process)) (take l.packed-index l.states)
