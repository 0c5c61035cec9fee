-- A wait or a wake comes first.
use Rattle.std.proofs.Common.{◌≡◌, ◌∙◌, Some, true, subst, sym}
use Rattle.locals.specs.Looks.{look}
use Rattle.locals.specs.Requests.{next_step_of}
use Rattle.machine.specs.ConcreteSteps.{can_move}
use Rattle.machine.specs.States.{thread_of}
use Rattle.machine.specs.Views.{View, concrete}
use Rattle.piece_machine.specs.PieceViews.{parts}
use Rattle.runner.specs.Views.{SharedView, log_state}
use Rattle.runner.proofs.Callings.{is_short}
use Rattle.runner.proofs.Handing.{up}
use Rattle.runner.proofs.shared.Shared.tell_held.Goals as goal

pub tell_call-requires-clause-short : goal.tell_call-requires-clause-short
tell_call-requires-clause-short g c =
    let m = c.self.inside.machine in
    let t = c.args.t in
    let moves = subst (λ (x : SharedView). can_move (log_state x).concrete.concrete t ≡ true) (sym c.self.view_is)
    c.requires.thread in
    let u = up (parts m).concrete t moves in
    let at = subst (λ (v : View). thread_of (concrete v) t ≡ Some u.thread) (sym c.machine.ensures.shows) u.stands in
    is_short (next_step_of (look c.machine.result.now.program t u.thread)) c.in-Some.request
    (sym c.in-Some.is ∙ c.call_ahead.ensures u.thread at)
