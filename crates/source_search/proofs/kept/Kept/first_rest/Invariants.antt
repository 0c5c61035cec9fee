use Rattle.std.proofs.Common.{All, take}
use Rattle.program.specs.Views.{program_of}
use Rattle.proof_exploration.specs.Blocking.{IsLive}
use Rattle.source_search.specs.Packed.{unpacked}
use Rattle.source_search.proofs.kept.Kept.first_rest.Given as goal

abbrev pub invariant-loop-place : goal.invariant-loop-place
invariant-loop-place l =
    All (λ x. IsLive (program_of l.checked.tree) (unpacked l.self.parts x) l.process) (take l.place l.states)
