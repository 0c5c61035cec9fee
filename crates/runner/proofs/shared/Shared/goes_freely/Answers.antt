-- Nobody holds a bucket, or the thread stands at a calm place.
use Rattle.std.proofs.Common.{◌≡◌, ◌∙◌, Some, true, sym, subst}
use Rattle.machine.specs.States.{thread_of}
use Rattle.machine.specs.Views.{View, concrete}
use Rattle.piece_machine.specs.PieceViews.{parts}
use Rattle.runner.specs.Reports.{IsHeldUp}
use Rattle.runner.specs.Views.{SharedView, log_state}
use Rattle.runner.proofs.Calm.{calm_free, calm_place}
use Rattle.runner.proofs.Waiting.{none_free}
use Rattle.runner.proofs.shared.Shared.goes_freely.Goals as goal

pub returns-then-holds_none : goal.returns-then-holds_none
returns-then-holds_none g c =
    let s = c.self.inside in
    subst (λ (x : SharedView). true ≡ true
    → IsHeldUp g.J.RunName.program (log_state x).concrete c.args.t → ⊥) c.self.view_is
    (λ is w. none_free g.J.RunName.program s.machine.view.program (parts s.machine) c.args.t c.self.invariant.0.program
    c.machine-machine.ensures.fit (c.holds_none.ensures c.if-holds_none.true) w)

pub returns-in-Some : goal.returns-in-Some
returns-in-Some g c =
    let s = c.self.inside in
    let p = g.J.RunName.program in
    let x = c.local.result.now in
    let at = subst (λ (w : View). thread_of (concrete w) c.args.t ≡ Some x) c.machine-machine.ensures.shows
    c.local.ensures in
    let e = c.contains.ensures in
    subst (λ (y : SharedView). c.contains.result ≡ true → IsHeldUp p (log_state y).concrete c.args.t → ⊥) c.self.view_is
    (λ is w. calm_free p s.machine.view.program (parts s.machine) c.args.t s.calm x c.self.invariant.0.program
    c.machine-machine.ensures.fit at e.closed
    (calm_place s.calm x c.in-Some.place (sym c.place.ensures ∙ c.in-Some.is) (sym e.value ∙ is)) w)
