use Rattle.std.proofs.Common.{◌∙◌, ap, sym, subst}
use Rattle.std.proofs.lemmas.Result.{IfOk-weaker, IfErr-weaker}
use Rattle.isa.specs.Programs.{Program}
use Rattle.piece_machine.specs.PieceViews.{parts}
use Rattle.runner.specs.Logs.{opening}
use Rattle.runner.specs.Schedules.{FailsAt, Follows}
use Rattle.runner.proofs.Scheduling.{fails_behind, followed}
use Rattle.runner.proofs.Turning.{on_ok}
use Rattle.runner.proofs.schedule.follow.Goals as goal

pub follow_turns-done-requires-clause-begins : goal.follow_turns-done-requires-clause-begins
follow_turns-done-requires-clause-begins c = c.in_ok-machine.ensures.parts ∙ ap opening (sym c.in_ok-machine.ensures.program)

pub returns-clause-ok : goal.returns-clause-ok
returns-clause-ok c =
    let own = c.in_ok-machine.ensures.program in
    let schedule = c.args.schedule.now in
    let log = c.follow_turns-done.new.log.items in
    let last = c.follow_turns-done.new.machine in
    let after = c.follow_turns-done.ensures in
    IfOk-weaker c.report_behind.result _ _ (λ r h.
    let all = on_ok c.follow_turns-done.result _ h.0 after.ok in
    followed c.args.image.now schedule log last r all.1
    (subst (λ (p : Program). Follows p schedule log (parts last)) own all.0)
    (after.program ∙ own) h.1 h.2 h.3 h.4) c.report_behind.ensures.ok

pub returns-clause-err : goal.returns-clause-err
returns-clause-err c =
    let own = c.in_ok-machine.ensures.program in
    IfErr-weaker c.report_behind.result _ _ (λ f h.
    subst (λ (p : Program). FailsAt p c.args.schedule.now f) own
    (fails_behind _ c.args.schedule.now c.follow_turns-done.result f c.follow_turns-done.ensures.err h))
    c.report_behind.ensures.err
