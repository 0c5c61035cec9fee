-- What the thread does next says which of the steps it is.
use Rattle.std.proofs.Common.{◌≡◌, ℕ, Some, refl, sym, ◌∙◌, subst}
use Rattle.locals.specs.Looks.{look}
use Rattle.locals.specs.Requests.{next_step_of}
use Rattle.locals.specs.Threads.{Thread}
use Rattle.locals.specs.declared.request.NextStep.{NextStep}
use Rattle.robustexit.specs.ExitRules.{exit_of}
use Rattle.machine.specs.ConcretePieces.{IsHeldUp}
use Rattle.machine.specs.States.{thread_of}
use Rattle.machine.specs.Views.{View, concrete}
use Rattle.piece_machine.specs.PieceViews.{PieceView, pieces}
use Rattle.piece_machine.proofs.Blocked.{never_none}
use Rattle.piece_machine.proofs.OwnCalls.{makes_call, apart_asks, apart_leaves, apart_others}
use Rattle.piece_machine.proofs.piece_machine.PieceMachine.other_step.Goals as goal

-- what the thread does next is this
abbrev AsksNext : View → ℕ → NextStep → Type 0
AsksNext v t next = (x : Thread) → thread_of (concrete v) t ≡ Some x → next ≡ next_step_of (look v.program t x)

pub call_rest-requires-clause-makes : goal.call_rest-requires-clause-makes
call_rest-requires-clause-makes c =
    let v = c.args.self.now.view in
    let asked = subst (λ (q : PieceView). AsksNext q.view c.args.t c.next_step-next.result) c.self.view_is
    c.next_step-next.ensures in
    makes_call v c.args.t c.in-Shared.request c.in-Some.call
    (never_none (concrete v) c.args.t c.requires.thread.0 c.requires.thread.1)
    (λ x at. sym c.in-Shared.is ∙ asked x at) c.in-Some.ensures

pub whole_step-requires-clause-apart : goal.whole_step-requires-clause-apart
whole_step-requires-clause-apart c =
    let v = c.args.self.now.view in
    let asked = subst (λ (q : PieceView). AsksNext q.view c.args.t c.next_step-next.result) c.self.view_is
    c.next_step-next.ensures in
    apart_asks v (pieces c.args.self.now) c.args.t c.in-Shared.request refl c.requires.awake
    (never_none (concrete v) c.args.t c.requires.thread.0 c.requires.thread.1)
    (λ x at. sym c.in-Shared.is ∙ asked x at) c.in-None.ensures

pub whole_step-requires-in-Exit-clause-apart : goal.whole_step-requires-in-Exit-clause-apart
whole_step-requires-in-Exit-clause-apart c =
    let v = c.args.self.now.view in
    let asked = subst (λ (q : PieceView). AsksNext q.view c.args.t c.next_step-next.result) c.self.view_is
    c.next_step-next.ensures in
    let free = subst (λ (q : PieceView). IsHeldUp (exit_of q.view.program.version) q.view.words q.view.sleepers c.args.t c.in-Exit.phase → ⊥) c.self.view_is
    c.if-is_held_up.ensures in
    apart_leaves v (pieces c.args.self.now) c.args.t c.in-Exit.phase refl c.requires.awake
    (never_none (concrete v) c.args.t c.requires.thread.0 c.requires.thread.1)
    (λ x at. sym c.in-Exit.is ∙ asked x at) free

pub whole_step-requires-in_default-clause-apart : goal.whole_step-requires-in_default-clause-apart
whole_step-requires-in_default-clause-apart c =
    let v = c.args.self.now.view in
    let asked = subst (λ (q : PieceView). AsksNext q.view c.args.t c.next_step-next.result) c.self.view_is
    c.next_step-next.ensures in
    apart_others v (pieces c.args.self.now) c.args.t c.next_step-next.result refl c.requires.awake
    (never_none (concrete v) c.args.t c.requires.thread.0 c.requires.thread.1) asked c.in_default.not-Shared
    c.in_default.not-Exit
