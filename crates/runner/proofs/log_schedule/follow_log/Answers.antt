use Rattle.std.proofs.Common.{◌∙◌, ap, sym, subst, map}
use Rattle.std.proofs.lemmas.Result.{IfOk-weaker, IfErr-weaker}
use Rattle.isa.specs.Programs.{Program}
use Rattle.piece_machine.specs.PieceViews.{parts}
use Rattle.runner.specs.Logs.{opening}
use Rattle.runner.specs.LogSchedules.{FailsLogAt, FollowsLog, shape_of}
use Rattle.runner.proofs.Turning.{followed_all, on_ok, fails_behind}
use Rattle.runner.proofs.log_schedule.follow_log.Goals as goal

pub follow_entries-done-requires-clause-begins : goal.follow_entries-done-requires-clause-begins
follow_entries-done-requires-clause-begins c = c.in_ok-machine.ensures.parts ∙ ap opening (sym c.in_ok-machine.ensures.program)

pub returns-clause-ok : goal.returns-clause-ok
returns-clause-ok c =
    let own = c.in_ok-machine.ensures.program in
    let log = c.follow_entries-done.new.log.items in
    let last = c.follow_entries-done.new.machine in
    let after = c.follow_entries-done.ensures in
    IfOk-weaker c.report_behind.result _ _ (λ r h.
    followed_all c.args.image.now c.args.entries log last r
    (subst (λ (p : Program). FollowsLog p (map shape_of c.args.entries) log (parts last)) own
    (on_ok c.follow_entries-done.result _ h.0 after.ok))
    (after.program ∙ own) h.1 h.2 h.3 h.4) c.report_behind.ensures.ok

pub returns-clause-err : goal.returns-clause-err
returns-clause-err c =
    let own = c.in_ok-machine.ensures.program in
    IfErr-weaker c.report_behind.result _ _ (λ f h.
    subst (λ (p : Program). FailsLogAt p c.args.entries f) own
    (fails_behind _ c.args.entries c.follow_entries-done.result f c.follow_entries-done.ensures.err h))
    c.report_behind.ensures.err
