-- Before a local step it stands before no shared one.
use Rattle.std.proofs.Common.{◌≡◌, Some, subst, sym}
use Rattle.locals.specs.Looks.{look}
use Rattle.locals.specs.Requests.{next_step_of}
use Rattle.locals.specs.Threads.{Thread}
use Rattle.machine.specs.States.{thread_of}
use Rattle.machine.specs.Views.{View, concrete}
use Rattle.runner.proofs.Walking.{no_local, no_step}
use Rattle.runner.proofs.log_schedule.take_shared.Goals as goal

pub step_as-requires-clause-next : goal.step_as-requires-clause-next
step_as-requires-clause-next c =
    subst (λ (w : View). (x : Thread) → thread_of (concrete w) c.args.t ≡ Some x
    → c.next_step-next.result ≡ next_step_of (look w.program c.args.t x)) c.machine.ensures.shows
    c.next_step-next.ensures

pub returns-then-is_local-clause-none : goal.returns-then-is_local-clause-none
returns-then-is_local-clause-none c =
    let p = c.args.machine.now.view.program in
    let next = subst (λ (w : View). (x : Thread) → thread_of (concrete w) c.args.t ≡ Some x
    → c.next_step-next.result ≡ next_step_of (look w.program c.args.t x)) c.machine.ensures.shows
    c.next_step-next.ensures in
    λ here event k at ends. no_local p c.args.t here
    (sym (c.if-is_local.ensures (look p c.args.t here) (next here at))) ends.0

pub returns-in-Ok-clause-some : goal.returns-in-Ok-clause-some
returns-in-Ok-clause-some c =
    let p = c.args.machine.now.view.program in
    let next = subst (λ (w : View). (x : Thread) → thread_of (concrete w) c.args.t ≡ Some x
    → c.next_step-next.result ≡ next_step_of (look w.program c.args.t x)) c.machine.ensures.shows
    c.next_step-next.ensures in
    λ here at. (
      no_step _ (sym (c.if-is_local.ensures (look p c.args.t here) (next here at))),
      c.in-Ok.ensures.done,
    )
