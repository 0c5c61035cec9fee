use Rattle.std.specs.Vec.Iter.{into_iter_items, into_iter_len}
use Rattle.program.specs.Trees.{as_version}
use Rattle.program.specs.Views.{program_of}
use Rattle.codegen_workers.proofs.Handing.{HandsIn}
use Rattle.codegen_workers.proofs.collecting.collect.Given as goal

-- the first workers have handed in, and what the others made is left
abbrev pub invariant-loop-share : goal.invariant-loop-share
invariant-loop-share g l =
    HandsIn (as_version l.layout.version (program_of l.program)) l.workers l.collector
    (into_iter_len l.share-iterator) (into_iter_items l.share-iterator)
