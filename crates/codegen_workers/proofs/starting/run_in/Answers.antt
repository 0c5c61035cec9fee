use Rattle.std.proofs.Common.{◌≡◌, ◌+◌, ◌∷◌, arith, length, subst, sym, vec_len}
use Rattle.std.specs.Vec.Iter.{into_iter_items}
use Rattle.program.specs.Trees.{as_version}
use Rattle.program.specs.Views.{program_of}
use Rattle.codegen_workers.specs.Handles.{AreHandles}
use Rattle.codegen_workers.specs.Shares.{IsShare}
use Rattle.codegen_workers.proofs.Handing.{kept_share, one_more}
use Rattle.codegen_workers.proofs.starting.run_in.Goals as goal

pub loop-handle-preserved : goal.loop-handle-preserved
loop-handle-preserved g c =
    let program = c.args.program.now in
    let version = c.args.layout.now.version in
    let workers = c.args.workers in
    let p = as_version version (program_of program) in
    let made = c.loop-handle.made in
    let before = c.loop-handle.invariant in
    let now = c.in-Ok-push.ensures in
    let steps = c.in-Some.ensures.steps in
    let next : AreHandles program version workers (vec_len made) (c.in-Some.handle ∷ into_iter_items c.next.new.self) =
    subst (λ hs. AreHandles program version workers (vec_len made) hs) steps.0 before.left in
    let last = kept_share program version workers (vec_len made) c.in-Some.handle c.join.result next.0 c.join.ensures in
    let count = before.count in
    let room = before.room in
    let grown = now.len in
    let larger = now.capacity in
    let fewer = steps.1 in
    let long = made.ok.0 in
    let place : vec_len made ≡ 0 + length made.items = omega (arith, long) in
    record {
      count = omega (arith, count, grown, fewer);
      room = omega (arith, room, larger);
      made = one_more (IsShare p workers) 0 (vec_len made) made.items c.push-in-loop-handle.new.self.items
          c.join.result now.items place before.made last;
      left = subst (λ n. AreHandles program version workers n (into_iter_items c.next.new.self)) (sym grown) next.1;
    }
