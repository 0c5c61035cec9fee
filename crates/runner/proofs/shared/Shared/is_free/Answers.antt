use Rattle.std.proofs.Common.{◌≡◌, ◌∙◌, Some, true, false, is_some, subst, sym}
use Rattle.locals.specs.Steps.{local_step}
use Rattle.machine.specs.States.{thread_of}
use Rattle.machine.specs.Views.{View, concrete}
use Rattle.piece_machine.specs.PieceViews.{parts}
use Rattle.piece_machine.proofs.Wanted.{takes_so}
use Rattle.runner.specs.Reports.{IsHeldUp}
use Rattle.runner.specs.Views.{SharedView, log_state}
use Rattle.runner.proofs.Waiting.{none_free, takes_free}
use Rattle.runner.proofs.shared.Shared.is_free.Goals as goal

pub returns-then-holds_none : goal.returns-then-holds_none
returns-then-holds_none g c =
    let s = c.self.inside in
    subst (λ (x : SharedView). true ≡ true
    → IsHeldUp g.J.RunName.program (log_state x).concrete c.args.t → ⊥) c.self.view_is
    (λ is w. none_free g.J.RunName.program s.machine.view.program (parts s.machine) c.args.t c.self.invariant.0.program
    c.machine-machine.ensures.fit (c.holds_none.ensures c.if-holds_none.true) w)

pub returns : goal.returns
returns g c =
    let s = c.self.inside in
    let p = s.machine.view.program in
    let x = c.local.result.now in
    let at = subst (λ (w : View). thread_of (concrete w) c.args.t ≡ Some x) c.machine-machine.ensures.shows
    c.local.ensures in
    let shared = subst (λ (w : View). false ≡ is_some (local_step w.program c.args.t x)) c.machine-machine.ensures.shows
    c.if-is_before_local.ensures in
    subst (λ (x : SharedView). c.can_move.result ≡ true
    → IsHeldUp g.J.RunName.program (log_state x).concrete c.args.t → ⊥) c.self.view_is
    (λ is w. takes_free g.J.RunName.program p (parts s.machine) c.args.t x c.self.invariant.0.program
    c.machine-machine.ensures.fit at shared ((takes_so p (parts s.machine) c.args.t).0 (sym c.can_move.ensures.value ∙ is))
    w)
