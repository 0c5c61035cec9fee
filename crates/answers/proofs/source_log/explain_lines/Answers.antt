use Rattle.program.specs.Names.{said_by}
use Rattle.program.specs.Trees.{as_version}
use Rattle.commandline.specs.CommandLine.{version_by}
use Rattle.answers.specs.SourceLog.{IsOfLog, IsRefusedLog}
use Rattle.answers.specs.declared.source_log.SourceLogFault.TheVariants.{Memory}
use Rattle.answers.proofs.RunsExplained.{of_code_saying, of_own_version}
use Rattle.answers.proofs.SourceLogs.{passes_on, reported, stopped}
use Rattle.answers.proofs.source_log.explain_lines.Goals as goal

pub explain_entries-requires : goal.explain_entries-requires
explain_entries-requires c =
    of_own_version (version_by c.args.exits) (said_by c.in_ok-checked.checked) c.in_ok-checked.lowered
    c.in_ok-checked.ensures.compiled.code

pub returns-in_err-explained-clause-fault : goal.returns-in_err-explained-clause-fault
returns-in_err-explained-clause-fault c =
    let read = c.in_ok-checked.ensures.compiled in
    passes_on c.from_residual-in_err-explained.result c.in_err-explained.field-0.0
    (λ f. IsRefusedLog (version_by c.args.exits) c.args.text.now c.args.lines.now c.args.most f)
    c.from_residual-in_err-explained.ensures
    (stopped (version_by c.args.exits) c.args.text.now c.args.lines.now c.args.most (said_by c.in_ok-checked.checked)
    c.in_ok-checked.lowered.image
    c.in_ok-entries.entries.items _ read.accepts read.code.image c.in_ok-entries.ensures.0 c.iter.ensures
    c.in_err-explained.field-0.0 c.in_err-explained.ensures).0

pub returns-in_err-report-clause-only : goal.returns-in_err-report-clause-only
returns-in_err-report-clause-only c p accepts fits =
    passes_on c.from_residual-in_err-report.result Memory IsOfLog c.from_residual-in_err-report.ensures tt

pub returns-clause-explained : goal.returns-clause-explained
returns-clause-explained c =
    let v = version_by c.args.exits in
    let p = said_by c.in_ok-checked.checked in
    let read = c.in_ok-checked.ensures.compiled in
    let e = c.in_ok-explained.ensures in
    let report = c.in_ok-report.ensures in
    let own = of_code_saying v p c.in_ok-checked.lowered.image _ _ _ c.in_ok-report.report.verdict read.code.image
    c.iter.ensures (e.explained, e.says c.in_ok-report.report.verdict report.verdict) in
    record {
      accepts = read.accepts;
      entries = c.in_ok-entries.entries.items;
      reads = c.in_ok-entries.ensures.0;
      explained = own.0;
      report = reported (as_version v p) c.in_ok-checked.lowered.image _ _ c.in_ok-explained.explained.last
          c.in_ok-report.report read.code.image c.iter.ensures e.last report.log report.last report.output report.verdict;
      says = own.1;
    }

pub returns-clause-short : goal.returns-clause-short
returns-clause-short c = (c.in_ok-entries.entries.items, c.in_ok-entries.ensures.0, c.in_ok-entries.ensures.1)
