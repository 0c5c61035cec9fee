use Rattle.std.proofs.Common.{All, take}
use Rattle.source_search.specs.Packed.{HasKey}
use Rattle.source_search.proofs.kept.Kept.has_all.Given as goal

abbrev pub invariant-loop-packed : goal.invariant-loop-packed
invariant-loop-packed l = All (HasKey l.self.states.items) (take l.packed-index l.states)
