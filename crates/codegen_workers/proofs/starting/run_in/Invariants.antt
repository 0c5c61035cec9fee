use Rattle.std.specs.Prelude.{◌+◌, ◌≤◌, vec_capacity, vec_items, vec_len}
use Rattle.std.specs.Vec.Iter.{into_iter_items, into_iter_len}
use Rattle.program.specs.Trees.{as_version}
use Rattle.program.specs.Views.{program_of}
use Rattle.codegen_workers.specs.Handles.{AreHandles}
use Rattle.codegen_workers.specs.Shares.{AreShares}
use Rattle.codegen_workers.proofs.starting.run_in.Given as goal

-- the workers whose handles are gone have handed in, and there is room for what the others make
abbrev pub invariant-loop-handle : goal.invariant-loop-handle
invariant-loop-handle g l = record {
  count : vec_len l.made + into_iter_len l.handle-iterator ≤ l.workers;
  room : l.workers ≤ vec_capacity l.made;
  made : AreShares (as_version l.layout.version (program_of l.program)) l.workers 0 (vec_items l.made);
  left : AreHandles l.program l.layout.version l.workers (vec_len l.made) (into_iter_items l.handle-iterator);
}
