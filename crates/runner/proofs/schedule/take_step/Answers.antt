use Rattle.std.proofs.Common.{◌≡◌, Err, Some, arith, refl, subst, sym}
use Rattle.std.proofs.lemmas.Result.{err_from_is_err_and}
use Rattle.locals.specs.Looks.{look}
use Rattle.locals.specs.Requests.{next_step_of}
use Rattle.locals.specs.Threads.{Thread}
use Rattle.machine.specs.States.{thread_of}
use Rattle.machine.specs.Views.{View, concrete}
use Rattle.machine.specs.declared.event.StepFault.TheVariants.{Broken}
use Rattle.piece_machine.specs.PieceConcrete.{piece_of}
use Rattle.piece_machine.specs.PieceViews.{parts}
use Rattle.piece_machine.proofs.Wanted.{takes_so}
use Rattle.runner.proofs.Handing.{up}
use Rattle.runner.proofs.Once.{made_so}
use Rattle.runner.proofs.Resting.{mover_so}
use Rattle.runner.proofs.Scheduling.{one_local, only_broken}
use Rattle.runner.proofs.Walking.{led_to, step_enters, walked_none}
use Rattle.runner.proofs.schedule.take_step.Goals as goal

pub step_as-requires-clause-thread : goal.step_as-requires-clause-thread
step_as-requires-clause-thread c =
    let old = c.args.machine.now in
    let u = up (concrete old.view) c.args.t
    (mover_so old.view.program old c.args.t ((takes_so old.view.program (parts old) c.args.t).0 c.requires.thread)) in
    made_so old.view.threads c.args.t u.thread u.stands

pub step_as-requires-clause-awake : goal.step_as-requires-clause-awake
step_as-requires-clause-awake c =
    let old = c.args.machine.now in
    (up (concrete old.view) c.args.t
    (mover_so old.view.program old c.args.t ((takes_so old.view.program (parts old) c.args.t).0 c.requires.thread))).awake

pub step_as-requires-clause-next : goal.step_as-requires-clause-next
step_as-requires-clause-next c =
    subst (λ (w : View). (x : Thread) → thread_of (concrete w) c.args.t ≡ Some x
    → c.next_step-next.result ≡ next_step_of (look w.program c.args.t x)) c.machine.ensures.shows
    c.next_step-next.ensures

pub returns-then-is_local-clause-ok : goal.returns-then-is_local-clause-ok
returns-then-is_local-clause-ok c =
    let old = c.args.machine.now in
    let r = c.run_local.ensures.runs in
    let is = subst (λ (w : View). (x : Thread) → thread_of (concrete w) c.args.t ≡ Some x
    → c.next_step-next.result ≡ next_step_of (look w.program c.args.t x)) c.machine.ensures.shows
    c.next_step-next.ensures r.origin r.stands in
    let before = c.if-is_local.ensures (look old.view.program c.args.t r.origin) is in
    let one = one_local old.view.program c.args.t c.run_local.result r.origin r.here r.origin refl before r.goes r.within
    r.whole in (
      record {
        origin = r.origin;
        here = r.here;
        stands = r.stands;
        moves = mover_so old.view.program old c.args.t
            ((takes_so old.view.program (parts old) c.args.t).0 c.requires.thread);
        goes = r.goes;
        ends = led_to old c.run_local.new.self c.args.t r.here r.after c.run_local.ensures.phases;
      },
      refl,
      omega (arith, one),
    )

pub returns-clause-ok : goal.returns-clause-ok
returns-clause-ok c =
    let old = c.args.machine.now in
    let p = old.view.program in
    let moves = mover_so p old c.args.t ((takes_so p (parts old) c.args.t).0 c.requires.thread) in
    let u = up (concrete old.view) c.args.t moves in
    let is = subst (λ (w : View). (x : Thread) → thread_of (concrete w) c.args.t ≡ Some x
    → c.next_step-next.result ≡ next_step_of (look w.program c.args.t x)) c.machine.ensures.shows
    c.next_step-next.ensures u.thread u.stands in
    let shared = sym (c.if-is_local.ensures (look p c.args.t u.thread) is) in (
      step_enters p (parts old) (parts old) (parts c.step_as.new.self) c.args.t 0 c.step_as.new.event
          (walked_none p (parts old) c.args.t u.thread u.stands moves shared) shared c.in_ok-step_as.ensures.done,
      refl,
      refl,
    )

pub returns-in_err-step_as-clause-err : goal.returns-in_err-step_as-clause-err
returns-in_err-step_as-clause-err c =
    let old = c.args.machine.now in
    let p = err_from_is_err_and c.from_residual.result c.from_residual.ensures.1 in
    let broken : piece_of old.view.program (parts old) c.args.t ≡ Err Broken =
    only_broken old.view.program (parts old) c.args.t c.in_err-step_as.field-0.0 c.machine.ensures.fit
    c.requires.thread c.in_err-step_as.ensures.err.0 in
    rw p.1 broken
