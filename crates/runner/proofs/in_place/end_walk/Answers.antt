-- A wait or a wake comes first.
use Rattle.std.proofs.Common.{◌≡◌, ◌∙◌, Some, subst, sym}
use Rattle.locals.specs.Looks.{look}
use Rattle.locals.specs.Requests.{next_step_of}
use Rattle.machine.specs.States.{thread_of}
use Rattle.machine.specs.Views.{View, concrete}
use Rattle.piece_machine.specs.PieceViews.{parts}
use Rattle.runner.proofs.Callings.{is_short}
use Rattle.runner.proofs.Handing.{up}
use Rattle.runner.proofs.Passing.{mover_number}
use Rattle.runner.proofs.in_place.end_walk.Goals as goal

pub end_call-requires-clause-number : goal.end_call-requires-clause-number
end_call-requires-clause-number c =
    let m = c.args.machine.now in
    mover_number m.view.program (parts m) c.args.t c.machine.ensures.fit c.requires.moves

pub end_call-requires-clause-short : goal.end_call-requires-clause-short
end_call-requires-clause-short c =
    let m = c.args.machine.now in
    let t = c.args.t in
    let u = up (parts m).concrete t c.requires.moves in
    let at = subst (λ (v : View). thread_of (concrete v) t ≡ Some u.thread) (sym c.machine.ensures.shows) u.stands in
    is_short (next_step_of (look c.machine.result.now.program t u.thread)) c.in-Some.request
    (sym c.in-Some.is ∙ c.call_ahead.ensures u.thread at)
