use Rattle.std.proofs.Common.{◌<◌, ℕ, suc}
use Rattle.program.specs.Views.{program_of}
use Rattle.proof_exploration.specs.Blocking.{IsLive}
use Rattle.source_search.specs.Living.{IsAsked}
use Rattle.source_search.specs.Packed.{unpacked}
use Rattle.source_search.proofs.kept.Kept.are_able.Given as goal

abbrev pub invariant-loop-place : goal.invariant-loop-place
invariant-loop-place l = (k : ℕ) → k < l.place → IsAsked l.who (suc k)
    → IsLive (program_of l.checked.tree) (unpacked l.self.parts l.packed) (suc k)
