-- Those woken are the front of the list, and those moved the front of what is left.
use Rattle.std.proofs.Common.{refl, ap, ◌∙◌, drop}
use Rattle.buckets.specs.Sleepers.{queue}
use Rattle.futexcalls.specs.PieceResults.{moved_on}
use Rattle.futexcalls.proofs.Choices.{wakes-front, requeues-front}
use Rattle.futexcalls.proofs.ListChanges.{one_list, lists_moved}
use Rattle.futexcalls.proofs.acting.act_on_sleepers.Goals as goal

pub returns-in-Wake-clause-acts : goal.returns-in-Wake-clause-acts
returns-in-Wake-clause-acts c =
    let t = c.take.ensures in
    rw c.in-Wake.is (
      c.clear-in-Wake.ensures,
      wakes-front c.args.buckets.now c.take.new.self c.in-Wake.address.0 c.in-Wake.wakes c.take.new.taken
          t.sound.0 t.taken t.places,
    )

pub returns-in-Requeue-clause-acts : goal.returns-in-Requeue-clause-acts
returns-in-Requeue-clause-acts c =
    let t = c.take-in-Requeue.ensures in
    let m = c.shift.ensures in
    let r = requeues-front (λ a. c.in-Requeue.expected) c.args.buckets.now c.take-in-Requeue.new.self c.shift.new.self
    c.in-Requeue.address.0 c.in-Requeue.target.0 c.in-Requeue.wakes c.in-Requeue.moves c.in-Requeue.expected
    c.take-in-Requeue.new.taken c.shift.new.moved refl t.sound.0 t.sound.1 t.taken t.places m.moved m.places in
    rw c.in-Requeue.is (record { wakes = r.wakes; moves = r.moves })

pub returns-in-Requeue-clause-queues : goal.returns-in-Requeue-clause-queues
returns-in-Requeue-clause-queues c =
    let t = c.take-in-Requeue.ensures in
    let m = c.shift.ensures in
    let q = queue c.args.buckets.now in
    let q1 = queue c.take-in-Requeue.new.self in
    rw c.in-Requeue.is (lists_moved q1 (queue c.shift.new.self) c.in-Requeue.address.0
    c.in-Requeue.target.0 c.in-Requeue.moves c.shift.new.moved m.moved m.rest m.last m.others
    (λ e. ap queue (m.same e))
    ∙ ap (λ x. moved_on x c.in-Requeue.address.0 c.in-Requeue.target.0 c.in-Requeue.moves)
    (one_list q q1 c.in-Requeue.address.0 (drop c.in-Requeue.wakes (q c.in-Requeue.address.0)) t.rest t.others))
