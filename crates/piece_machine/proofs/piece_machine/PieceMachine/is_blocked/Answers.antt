-- Which bucket is in the way follows from what the thread does next.
use Rattle.std.proofs.Common.{Some, ◌<◌, ◌≤◌, length, refl, sym, subst}
use Rattle.std.specs.Prelude.{MatchBool}
use Rattle.machine.specs.ConcretePieces.{pieces_of}
use Rattle.machine.specs.PieceSteps.{BlocksCall}
use Rattle.machine.specs.Views.{concrete}
use Rattle.piece_machine.specs.PieceViews.{PieceView, pieces, phase_in, IsBlocked}
use Rattle.piece_machine.proofs.OwnCalls.{makes_call}
use Rattle.piece_machine.proofs.Blocked.{made, never_none, call_blocked, exit_blocked}
use Rattle.piece_machine.proofs.piece_machine.PieceMachine.is_blocked.Goals as goal

pub returns-in-Some : goal.returns-in-Some
returns-in-Some c =
    let v = c.self.inside.machine in
    let t = c.args.t in
    let b = c.waits_for_bucket.result in
    let there = subst (λ (q : PieceView). (0 < t) × (t ≤ length q.view.threads)) (sym c.self.view_is) c.requires in
    let call = c.in-Some.call in
    let waits = subst (λ (q : PieceView). MatchBool b (BlocksCall (pieces q) t (Some call))
    (BlocksCall (pieces q) t (Some call) → ⊥)) (sym c.self.view_is) c.waits_for_bucket.ensures in
    subst (λ (q : PieceView). MatchBool b (IsBlocked q.view.program (pieces q) t)
    (IsBlocked q.view.program (pieces q) t → ⊥)) c.self.view_is
    (call_blocked v (pieces_of v (phase_in c.self.inside.phases)) t call b refl
    (makes_call v t c.in-Shared.request call (never_none (concrete v) t there.0 there.1) c.in-Shared.ensures
    c.in-Some.ensures) waits)

pub returns-in-Exit : goal.returns-in-Exit
returns-in-Exit c =
    let v = c.self.inside.machine in
    let t = c.args.t in
    let b = c.is_held_up.result in
    let there = subst (λ (q : PieceView). (0 < t) × (t ≤ length q.view.threads)) (sym c.self.view_is) c.requires in
    let m = made (concrete v) t there.0 there.1 in
    subst (λ (q : PieceView). MatchBool b (IsBlocked q.view.program (pieces q) t)
    (IsBlocked q.view.program (pieces q) t → ⊥)) c.self.view_is
    (exit_blocked v (pieces_of v (phase_in c.self.inside.phases)) t c.in-Exit.phase b refl m.0 m.1
    (c.in-Exit.ensures m.0 m.1) c.is_held_up.ensures)
