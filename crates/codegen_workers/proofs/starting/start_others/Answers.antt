use Rattle.std.proofs.Common.{◌≡◌, ◌+◌, ap, arith, length}
use Rattle.codegen_workers.specs.Handles.{IsHandleOf}
use Rattle.codegen_workers.specs.declared.share.ShareOf.{ShareOf}
use Rattle.codegen_workers.proofs.Handing.{one_more}
use Rattle.codegen_workers.proofs.starting.start_others.Goals as goal

pub loop-worker-preserved : goal.loop-worker-preserved
loop-worker-preserved g c =
    let program = c.args.program.now in
    let version = c.args.layout.now.version in
    let workers = c.args.workers in
    let worker = c.loop-worker.worker in
    let handles = c.loop-worker.handles in
    let before = c.loop-worker.invariant in
    let now = c.in-Ok-push.ensures in
    let is = c.in-Ok.ensures in
    let last : IsHandleOf program version workers worker c.in-Ok.handle = record {
      program_is = ap (λ (s : ShareOf). s.program.now) is;
      version_is = ap (λ (s : ShareOf). s.layout.now.version) is;
      workers_are = ap (λ (s : ShareOf). s.workers) is;
      worker_is = ap (λ (s : ShareOf). s.worker) is;
    } in
    let count = before.count in
    let room = before.room in
    let grown = now.len in
    let larger = now.capacity in
    let long = handles.ok.0 in
    let place : worker ≡ 1 + length handles.items = omega (arith, count, long) in
    record {
      count = omega (arith, count, grown);
      room = omega (arith, room, larger);
      each = one_more (IsHandleOf program version workers) 1 worker handles.items c.push.new.self.items c.in-Ok.handle
          now.items place before.each last;
    }
