use Rattle.std.proofs.Common.{◌<◌, ◌^◌, arith, subst, sym}
use Rattle.program.specs.Names.{said_by}
use Rattle.commandline.specs.CommandLine.{version_by}
use Rattle.piece_machine.specs.PieceViews.{parts}
use Rattle.answers.proofs.RunsExplained.{explained_saying, of_own_version, run_alone_explained}
use Rattle.answers.specs.Explaining.{IsRefusedExplanation, IsWantOfMemory}
use Rattle.answers.proofs.Failing.{passed}
use Rattle.answers.proofs.explained_run.explain_alone.Goals as goal

pub explain_run-requires-clause-own : goal.explain_run-requires-clause-own
explain_run-requires-clause-own c =
    of_own_version (version_by c.args.exits) (said_by c.in_ok-checked.checked) c.in_ok-checked.lowered
    c.in_ok-checked.ensures.compiled.code

pub returns-clause-explained : goal.returns-clause-explained
returns-clause-explained c =
    let small : c.args.limit < 2 ^ 32 = omega (arith, c.ranges.limit.fits) in
    let v = version_by c.args.exits in
    let p = said_by c.in_ok-checked.checked in
    let image = c.in_ok-checked.lowered.image in
    let report = c.in_ok-report.report in
    let read = c.in_ok-checked.ensures.compiled in
    let reported = c.in_ok-report.ensures.report in
    let own = explained_saying v p image _ _ _ (parts report.last) report.verdict read.code.image c.iter.ensures
    reported.legal reported.verdict c.in_ok-actions.ensures in
    record {
      accepts = read.accepts;
      run = run_alone_explained c.logs_are_machine_runs.ensures.runs v c.args.text.now image c.args.order c.args.limit
          report read.compiled small c.in_ok-report.ensures.order;
      explained = own.0;
      says = own.1;
    }

pub returns-in_err-actions-clause-only : goal.returns-in_err-actions-clause-only
returns-in_err-actions-clause-only c p accepts fits =
    passed c.from_residual-in_err-actions.result c.in_err-actions.field-0.0 IsWantOfMemory
    c.from_residual-in_err-actions.ensures (subst IsWantOfMemory (sym c.in_err-actions.ensures) tt)

pub returns-in_err-actions-clause-fault : goal.returns-in_err-actions-clause-fault
returns-in_err-actions-clause-fault c =
    passed c.from_residual-in_err-actions.result c.in_err-actions.field-0.0
    (IsRefusedExplanation (version_by c.args.exits) c.args.text.now)
    c.from_residual-in_err-actions.ensures
    (subst (IsRefusedExplanation (version_by c.args.exits) c.args.text.now) (sym c.in_err-actions.ensures) tt)
