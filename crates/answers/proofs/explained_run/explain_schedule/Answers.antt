use Rattle.std.proofs.Common.{◌<◌, ◌^◌, List, subst, sym}
use Rattle.machine.specs.declared.event.Entry.{Entry}
use Rattle.piece_machine.specs.PieceViews.{parts}
use Rattle.program.specs.Names.{said_by}
use Rattle.commandline.specs.CommandLine.{version_by}
use Rattle.runner.specs.Logs.{cost}
use Rattle.answers.proofs.Replays.{followed_few, replay_explained}
use Rattle.answers.proofs.RunsExplained.{explained_saying, of_own_version}
use Rattle.answers.proofs.explained_run.explain_schedule.Goals as goal

pub explain_run-requires-clause-few : goal.explain_run-requires-clause-few
explain_run-requires-clause-few c =
    subst (λ (es : List Entry). cost es < 2 ^ 32) (sym c.iter.ensures)
    (followed_few c.in_ok-checked.lowered.image c.args.schedule.now c.in_ok-report.report c.in_ok-report.ensures)

pub explain_run-requires-clause-own : goal.explain_run-requires-clause-own
explain_run-requires-clause-own c =
    of_own_version (version_by c.args.exits) (said_by c.in_ok-checked.checked) c.in_ok-checked.lowered
    c.in_ok-checked.ensures.compiled.code

pub returns-clause-explained : goal.returns-clause-explained
returns-clause-explained c =
    let v = version_by c.args.exits in
    let p = said_by c.in_ok-checked.checked in
    let image = c.in_ok-checked.lowered.image in
    let report = c.in_ok-report.report in
    let read = c.in_ok-checked.ensures.compiled in
    let followed = c.in_ok-report.ensures in
    let own = explained_saying v p image _ _ _ (parts report.last) report.verdict read.code.image c.iter.ensures
    followed.follows.legal followed.verdict c.in-Ok.ensures in
    record {
      accepts = read.accepts;
      run = replay_explained v c.args.text.now image c.args.schedule.now report read.compiled followed;
      explained = own.0;
      says = own.1;
    }
