use Rattle.std.proofs.Common.{All, take}
use Rattle.source_search.specs.Ends.{IsEnded}
use Rattle.source_search.specs.Packed.{unpacked}
use Rattle.source_search.specs.declared.packed.Packed.{Packed}
use Rattle.source_search.proofs.lost.none_ended.Given as goal

abbrev pub invariant-loop-packed : goal.invariant-loop-packed
invariant-loop-packed l =
    All (λ (x : Packed). IsEnded (unpacked l.parts x) → ⊥) (take l.packed-index l.states)
