use Rattle.std.proofs.Common.{◌≡◌, ◌∙◌, ℕ, ap, sym, subst, arith, inl, Some}
use Rattle.locals.specs.Steps.{local_after}
use Rattle.machine.specs.ConcreteSteps.{can_move}
use Rattle.machine.specs.States.{state_of}
use Rattle.machine.specs.Views.{View, concrete}
use Rattle.piece_machine.specs.PieceViews.{parts}
use Rattle.runner.specs.LogSchedules.{shape_of}
use Rattle.runner.specs.Logs.{EntersOwn, is_outside}
use Rattle.runner.proofs.Growing.{entry}
use Rattle.runner.proofs.Walking.{led_to}
use Rattle.runner.proofs.Handing.{up}
use Rattle.runner.proofs.Once.{still_made}
use Rattle.runner.proofs.Owning.{calm_kill, own_entry}
use Rattle.runner.proofs.Turning.{no_mover, no_shared, takes_shared, too_few}
use Rattle.runner.proofs.log_schedule.take_turn.Goals as goal

pub returns-then-not-can_move-clause-none : goal.returns-then-not-can_move-clause-none
returns-then-not-can_move-clause-none c =
    no_mover c.args.machine.now.view.program (parts c.args.machine.now) (shape_of c.args.entry.now)
    (sym c.is_outside.ensures ∙ c.if-is_outside.false) (ap (λ (w : View). can_move (concrete w) c.args.entry.now.thread) (sym c.machine.ensures.shows)
    ∙ sym c.can_move.ensures ∙ c.if-not-can_move.true)

pub returns-then-run_local-local-clause-none : goal.returns-then-run_local-local-clause-none
returns-then-run_local-local-clause-none c =
    let r = c.run_local.ensures.runs in
    let old = c.args.machine.now in
    too_few old.view.program (parts old) (shape_of c.args.entry.now) c.run_local.result r.origin r.here r.stands r.goes
    (r.whole c.if-run_local-local.true) c.if-run_local-local.true

pub take_shared-requires-clause-thread : goal.take_shared-requires-clause-thread
take_shared-requires-clause-thread c =
    let r = c.run_local.ensures.runs in
    still_made c.args.machine.now.view.threads c.run_local.new.self.view.threads c.args.entry.now.thread r.origin r.here r.stands
    (ap (λ v. v.threads) r.after)

pub take_shared-requires-clause-awake : goal.take_shared-requires-clause-awake
take_shared-requires-clause-awake c =
    let r = c.run_local.ensures.runs in
    let old = c.args.machine.now in
    let moves = ap (λ (w : View). can_move (concrete w) c.args.entry.now.thread) (sym c.machine.ensures.shows)
    ∙ sym c.can_move.ensures ∙ c.if-not-can_move.false in
    ap (λ (w : View). (state_of (concrete w)).asleep c.args.entry.now.thread) r.after
    ∙ (up (concrete old.view) c.args.entry.now.thread moves).awake

pub returns-in_default-clause-none : goal.returns-in_default-clause-none
returns-in_default-clause-none c =
    let r = c.run_local.ensures.runs in
    let old = c.args.machine.now in
    let mid = c.run_local.new.self in
    let count : c.run_local.result ≡ c.args.entry.now.local = omega (arith, r.within, c.if-run_local-local.false) in
    no_shared old.view.program mid.view.program (parts old) (parts mid) (shape_of c.args.entry.now) r.origin r.here
    (sym c.is_outside.ensures ∙ c.if-is_outside.false) r.stands
    (subst (λ (n : ℕ). local_after old.view.program c.args.entry.now.thread n r.origin ≡ Some r.here) count r.goes)
    (sym c.is_some.ensures ∙ c.if-is_some.true) (ap (λ v. v.program) r.after) (led_to old mid c.args.entry.now.thread r.here r.after c.run_local.ensures.phases)
    c.in_default.ensures.none

pub returns-then-is_some-clause-some : goal.returns-then-is_some-clause-some
returns-then-is_some-clause-some c =
    let r = c.run_local.ensures.runs in
    let old = c.args.machine.now in
    let mid = c.run_local.new.self in
    let shared = sym c.is_some.ensures ∙ c.if-is_some.true in
    let count : c.run_local.result ≡ c.args.entry.now.local = omega (arith, r.within, c.if-run_local-local.false) in
    let event = c.in-Some.event in
    let new = parts c.take_shared.new.machine in
    let one = entry c.args.entry.now.thread c.args.entry.now.local (Some event) in
    let enters : EntersOwn old.view.program (parts old) one new =
    takes_shared old.view.program mid.view.program (parts old) (parts mid) new c.args.entry.now.thread
    c.args.entry.now.local r.origin r.here event (ap (λ (w : View). can_move (concrete w) c.args.entry.now.thread) (sym c.machine.ensures.shows)
    ∙ sym c.can_move.ensures ∙ c.if-not-can_move.false) r.stands
    (subst (λ (n : ℕ). local_after old.view.program c.args.entry.now.thread n r.origin ≡ Some r.here) count r.goes)
    (ap (λ v. v.program) r.after) (led_to old mid c.args.entry.now.thread r.here r.after c.run_local.ensures.phases) c.in-Some.ensures.some in
    let calm = sym c.is_outside.ensures ∙ c.if-is_outside.false in
    let told : is_outside (Some event) ≡ is_outside c.args.entry.now.event =
    own_entry old.view.program (parts old) new one enters ∙ sym calm in (
      inl enters,
      λ i. record {
        thread = c.args.entry.now.thread;
        local = c.args.entry.now.local;
        shared = sym shared i;
        outside = told i;
        kill = (calm_kill (Some event) (own_entry old.view.program (parts old) new one enters)
            ∙ sym (calm_kill c.args.entry.now.event calm)) i;
      },
    )
