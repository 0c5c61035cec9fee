-- What the thread does next tells its call.
use Rattle.std.proofs.Common.{◌≡◌, ◌<◌, ◌≤◌, length, sym, ap, ◌∙◌, subst}
use Rattle.locals.specs.Looks.{look}
use Rattle.machine.specs.PieceStates.{called}
use Rattle.machine.specs.States.{thread_of}
use Rattle.machine.specs.Views.{concrete}
use Rattle.piece_machine.specs.PieceViews.{PieceView}
use Rattle.piece_machine.proofs.Blocked.{made, told_is}
use Rattle.piece_machine.proofs.piece_machine.PieceMachine.call_at.Goals as goal

pub returns-in-Shared : goal.returns-in-Shared
returns-in-Shared c =
    let v = c.self.inside.machine in
    let t = c.args.t in
    let there = subst (λ (q : PieceView). (0 < t) × (t ≤ length q.view.threads)) (sym c.self.view_is) c.requires in
    let m = made (concrete v) t there.0 there.1 in
    let is = told_is (look v.program t m.0) c.in-Shared.request (c.in-Shared.ensures m.0 m.1) in
    subst (λ (q : PieceView). c.call_in.result ≡ called q.view.program t (thread_of (concrete q.view) t)) c.self.view_is
    (c.call_in.ensures ∙ sym is ∙ sym (ap (called v.program t) m.1))
