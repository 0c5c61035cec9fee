use Rattle.std.proofs.Common.{◌⊎◌, All, take}
use Rattle.source_search.specs.Ends.{IsEnded}
use Rattle.source_search.specs.Packed.{HasKey, unpacked}
use Rattle.source_search.specs.declared.packed.Packed.{Packed}
use Rattle.source_search.proofs.kept.Kept.first_lost.Given as goal

abbrev pub invariant-loop-place : goal.invariant-loop-place
invariant-loop-place l =
    All (λ (x : Packed). HasKey l.self.states.items x ⊎ IsEnded (unpacked l.self.parts x)) (take l.place l.states)
