-- The room changes, and nothing else.
use Rattle.std.proofs.Common.{◌≡◌, ap, ◌∙◌}
use Rattle.buckets.specs.Sleepers.{bucket_count, holder_of}
use Rattle.machine.specs.ConcretePieces.{pieces_of}
use Rattle.machine.specs.States.{state_of}
use Rattle.piece_machine.specs.PieceViews.{PieceView, pieces, parts, phase_in}
use Rattle.piece_machine.proofs.piece_machine.PieceMachine.make_room.Goals as goal

pub invariant_of-self : goal.invariant_of-self
invariant_of-self c =
    let v = c.self.inside.machine in
    let v' = c.make_room.new.self in
    let ph = phase_in c.self.inside.phases in
    let e = c.make_room.ensures in
    let state : pieces_of v' ph ≡ pieces_of v ph = λ i. record {
      base = state_of (e.same.1 i);
      phase = ph;
      holder = holder_of (e.sleepers i);
      buckets = bucket_count (e.sleepers i);
    } in
    record {
      well = rw (e.same.0, e.same.1) c.self.invariant.well;
      right = rw (e.same.0, state) c.self.invariant.right;
      come = rw (e.same.0, state) c.self.invariant.come;
      long = c.self.invariant.long;
    }

pub returns-clause-same : goal.returns-clause-same
returns-clause-same c =
    let ph = phase_in c.self.inside.phases in
    let e = c.make_room.ensures in (
      e.same.0 ∙ ap (λ (q : PieceView). q.view.program) c.self.view_is,
      (λ i. record {
        base = state_of (e.same.1 i);
        phase = ph;
        holder = holder_of (e.sleepers i);
        buckets = bucket_count (e.sleepers i);
      }) ∙ ap (λ (q : PieceView). pieces q) c.self.view_is,
    )

pub returns-clause-parts : goal.returns-clause-parts
returns-clause-parts c =
    let ph = phase_in c.self.inside.phases in
    let e = c.make_room.ensures in
    (λ i. record {
      concrete = e.same.1 i;
      phase = ph;
      holder = holder_of (e.sleepers i);
      buckets = bucket_count (e.sleepers i);
    }) ∙ ap (λ (q : PieceView). parts q) c.self.view_is
