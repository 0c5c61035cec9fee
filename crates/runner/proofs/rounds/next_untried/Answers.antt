use Rattle.std.proofs.Common.{◌+◌, None, Some, inl}
use Rattle.piece_machine.specs.PieceViews.{parts}
use Rattle.runner.specs.Views.{log_state}
use Rattle.runner.proofs.Noting.{free_at, wait_at}
use Rattle.runner.proofs.Ordering.{around_again}
use Rattle.runner.proofs.RoundSteps.{turn_behind}
use Rattle.runner.proofs.rounds.next_untried.Goals as goal

pub next_behind-requires-clause-waits : goal.next_behind-requires-clause-waits
next_behind-requires-clause-waits g c =
    let m = c.piece_machine in
    wait_at g.J.RunName.program m.result.now.view.program (log_state c.args.shared.now).concrete (parts m.result.now)
    c.args.waiting.now m.ensures.program m.ensures.parts c.requires.waits

pub returns-in-Some-clause-around : goal.returns-in-Some-clause-around
returns-in-Some-clause-around g c =
    let m = c.piece_machine in
    inl (free_at g.J.RunName.program m.result.now.view.program (log_state c.args.shared.now).concrete (parts m.result.now)
    (c.args.t + 1) (Some c.in-Some.u) m.ensures.program m.ensures.parts c.in-Some.ensures.free)

pub returns-clause-around : goal.returns-clause-around
returns-clause-around g c =
    let p = g.J.RunName.program in
    let k = (log_state c.args.shared.now).concrete in
    let m = c.piece_machine in
    let n = c.piece_machine-2 in
    around_again p k c.args.t c.next_behind-2.result
    (free_at p m.result.now.view.program k (parts m.result.now) (c.args.t + 1) None m.ensures.program m.ensures.parts
    c.in_default.ensures.free)
    (free_at p n.result.now.view.program k (parts n.result.now) 1 c.next_behind-2.result n.ensures.program n.ensures.parts
    c.next_behind-2.ensures.free)

pub returns-in-Some-clause-next : goal.returns-in-Some-clause-next
returns-in-Some-clause-next g c =
    let p = g.J.RunName.program in
    let h = log_state c.args.shared.now in
    let m = c.piece_machine in
    turn_behind p g.J.RunName.limit c.args.before.now h (c.args.t + 1) c.in-Some.u c.in-Some.ensures.number c.requires.tried
    (free_at p m.result.now.view.program h.concrete (parts m.result.now) (c.args.t + 1) (Some c.in-Some.u) m.ensures.program
    m.ensures.parts c.in-Some.ensures.free)
