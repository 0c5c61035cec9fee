-- What the thread would do next says what its step would be refused for.
use Rattle.std.proofs.Common.{◌≡◌, Some, sym, ap, ◌∙◌, subst}
use Rattle.locals.specs.Looks.{Leaves, look}
use Rattle.locals.specs.Requests.{next_step_of}
use Rattle.machine.specs.ConcreteSteps.{fault_of}
use Rattle.machine.specs.declared.event.StepFault.TheVariants.{CannotMove}
use Rattle.machine.specs.States.{state_of}
use Rattle.machine.specs.Views.{concrete}
use Rattle.piece_machine.specs.PieceConcrete.{pieces_at, with_local, piece_fault_at}
use Rattle.piece_machine.specs.PieceViews.{PieceView, pieces, parts, GoesTo, RefusesCall}
use Rattle.piece_machine.proofs.Blocked.{leaves_as}
use Rattle.piece_machine.proofs.Given.{held_up, call_fault, led_on, led_refuses, apart_fault}
use Rattle.piece_machine.proofs.Locally.{led_fit}
use Rattle.piece_machine.proofs.OwnCalls.{awake_of, asks_call, none_asked, leaves, others}
use Rattle.piece_machine.proofs.piece_machine.PieceMachine.refusal_as.Goals as goal

pub returns-then-is_held_up : goal.returns-then-is_held_up
returns-then-is_held_up c = λ here stands is.
    let v = c.self.inside.machine in
    let t = c.args.t in
    let k = parts (record { view = v; phases = c.self.inside.phases }) in
    let goes = subst (λ (q : PieceView). GoesTo q.view t here) (sym c.self.view_is) stands in
    let told = subst (λ (q : PieceView). c.args.next ≡ next_step_of (look q.view.program t here)) (sym c.self.view_is) is in
    let awake = awake_of c.asleep.result ((state_of (concrete v)).asleep t)
    (sym c.is_some.ensures ∙ c.if-is_some.false) c.asleep.ensures in
    let fit = led_fit v c.self.inside.phases t here c.self.invariant goes awake in
    let there = led_on v.program k t goes.origin here (goes.stands, awake) in
    subst (λ (q : PieceView). Some CannotMove ≡ piece_fault_at q.view.program (parts q) t here) c.self.view_is
    (sym (ap fault_of (held_up v.program (with_local k t here) t here (Leaves c.in-Exit.phase) fit there
    (leaves_as (look v.program t here) c.in-Exit.phase (sym c.in-Exit.is ∙ told)) c.if-is_held_up.ensures)))

pub returns-in-Some : goal.returns-in-Some
returns-in-Some c = λ here stands is.
    let v = c.self.inside.machine in
    let t = c.args.t in
    let k = parts (record { view = v; phases = c.self.inside.phases }) in
    let goes = subst (λ (q : PieceView). GoesTo q.view t here) (sym c.self.view_is) stands in
    let told = subst (λ (q : PieceView). c.args.next ≡ next_step_of (look q.view.program t here)) (sym c.self.view_is) is in
    let awake = awake_of c.asleep.result ((state_of (concrete v)).asleep t)
    (sym c.is_some.ensures ∙ c.if-is_some.false) c.asleep.ensures in
    let fit = led_fit v c.self.inside.phases t here c.self.invariant goes awake in
    let there = led_on v.program k t goes.origin here (goes.stands, awake) in
    let call = c.in-Some.call in
    let asks = asks_call (look v.program t here) c.in-Shared.request call (sym c.in-Shared.is ∙ told) c.in-Some.ensures in
    let refuses = subst (λ (q : PieceView). RefusesCall (pieces q) t call c.call_refusal.result) (sym c.self.view_is)
    c.call_refusal.ensures in
    subst (λ (q : PieceView). c.call_refusal.result ≡ piece_fault_at q.view.program (parts q) t here) c.self.view_is
    (call_fault v.program (with_local k t here) t here call asks.0 c.call_refusal.result fit there asks.1
    (led_refuses k t here call c.call_refusal.result refuses))

pub returns-in-None : goal.returns-in-None
returns-in-None c = λ here stands is.
    let v = c.self.inside.machine in
    let t = c.args.t in
    let k = parts (record { view = v; phases = c.self.inside.phases }) in
    let goes = subst (λ (q : PieceView). GoesTo q.view t here) (sym c.self.view_is) stands in
    let told = subst (λ (q : PieceView). c.args.next ≡ next_step_of (look q.view.program t here)) (sym c.self.view_is) is in
    let awake = awake_of c.asleep.result ((state_of (concrete v)).asleep t)
    (sym c.is_some.ensures ∙ c.if-is_some.false) c.asleep.ensures in
    subst (λ (q : PieceView). c.refusal_as.result ≡ piece_fault_at q.view.program (parts q) t here) c.self.view_is
    (c.refusal_as.ensures here (sym c.in-Shared.is ∙ told)
    ∙ apart_fault v.program k t goes.origin here (goes.stands, awake)
    (none_asked _ (pieces_at (with_local k t here)) t (look v.program t here) c.in-Shared.request (sym c.in-Shared.is ∙ told)
    c.in-None.ensures))

pub returns-else-is_held_up : goal.returns-else-is_held_up
returns-else-is_held_up c = λ here stands is.
    let v = c.self.inside.machine in
    let t = c.args.t in
    let k = parts (record { view = v; phases = c.self.inside.phases }) in
    let goes = subst (λ (q : PieceView). GoesTo q.view t here) (sym c.self.view_is) stands in
    let told = subst (λ (q : PieceView). c.args.next ≡ next_step_of (look q.view.program t here)) (sym c.self.view_is) is in
    let awake = awake_of c.asleep.result ((state_of (concrete v)).asleep t)
    (sym c.is_some.ensures ∙ c.if-is_some.false) c.asleep.ensures in
    subst (λ (q : PieceView). c.refusal_as-in-Exit.result ≡ piece_fault_at q.view.program (parts q) t here) c.self.view_is
    (c.refusal_as-in-Exit.ensures here (sym c.in-Exit.is ∙ told)
    ∙ apart_fault v.program k t goes.origin here (goes.stands, awake)
    (leaves _ (pieces_at (with_local k t here)) t (look v.program t here) c.in-Exit.phase (sym c.in-Exit.is ∙ told)
    c.if-is_held_up.ensures))

pub returns-in_default : goal.returns-in_default
returns-in_default c = λ here stands is.
    let v = c.self.inside.machine in
    let t = c.args.t in
    let k = parts (record { view = v; phases = c.self.inside.phases }) in
    let goes = subst (λ (q : PieceView). GoesTo q.view t here) (sym c.self.view_is) stands in
    let told = subst (λ (q : PieceView). c.args.next ≡ next_step_of (look q.view.program t here)) (sym c.self.view_is) is in
    let awake = awake_of c.asleep.result ((state_of (concrete v)).asleep t)
    (sym c.is_some.ensures ∙ c.if-is_some.false) c.asleep.ensures in
    subst (λ (q : PieceView). c.refusal_as-in_default.result ≡ piece_fault_at q.view.program (parts q) t here) c.self.view_is
    (c.refusal_as-in_default.ensures here told
    ∙ apart_fault v.program k t goes.origin here (goes.stands, awake)
    (others _ (pieces_at (with_local k t here)) t (look v.program t here) c.args.next told
    c.in_default.not-Shared c.in_default.not-Exit))
