use Rattle.std.specs.Prelude.{◌≡◌, ◌+◌, ◌≤◌, vec_capacity, vec_items, vec_len}
use Rattle.codegen_workers.specs.Handles.{AreHandles}
use Rattle.codegen_workers.proofs.starting.start_others.Given as goal

-- the workers before this one are started, and there is room for all
abbrev pub invariant-loop-worker : goal.invariant-loop-worker
invariant-loop-worker g l = record {
  count : vec_len l.handles + 1 ≡ l.worker;
  room : l.workers ≤ vec_capacity l.handles + 1;
  each : AreHandles l.program l.layout.version l.workers 1 (vec_items l.handles);
}
