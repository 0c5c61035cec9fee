use Rattle.std.proofs.Common.{◌≡◌, ◌∙◌, IsOk, rules}
use Rattle.std.proofs.lemmas.Result.{IfOk-weaker}
use Rattle.runner.specs.declared.report.Report.{Report}
use Rattle.runner.specs.Reports.{IsReport}
use Rattle.runner.specs.Views.{log_state}
use Rattle.runner.proofs.Reporting.{passed_on, reported}
use Rattle.runner.proofs.Turning.{on_ok}
use Rattle.runner.proofs.running.report_run.Goals as goal

pub returns-clause-ok : goal.returns-clause-ok
returns-clause-ok g c =
    let p = g.J.RunName.program in
    let may = g.J.RunName.outside in
    let limit = g.J.RunName.limit in
    let parts = c.into_parts-log in
    let e = c.report_of.ensures in
    passed_on (λ (r : Report). IsReport p may limit r) _ c.report_of.result c.map_err.result c.map_err.ensures.cases
    c.map_err.ensures.variant
    (reported p may limit (log_state c.args.shared) parts.result.0.items parts.result.1 c.report_of.result
    parts.ensures.legal parts.ensures.own parts.ensures.within (on_ok c.args.done _ (search rules) c.requires.ok) parts.ensures.log
    parts.ensures.concrete parts.ensures.program e.log e.last e.output e.verdict e.fit)

pub returns-clause-log : goal.returns-clause-log
returns-clause-log g c =
    let parts = c.into_parts-log in
    let done : IsOk c.args.done = search rules in
    passed_on (λ (r : Report). IsOk c.args.done × (r.log.items ≡ c.args.shared.log)) _ c.report_of.result c.map_err.result
    c.map_err.ensures.cases c.map_err.ensures.variant
    (IfOk-weaker c.report_of.result _ _ (λ r h. (done, h ∙ parts.ensures.log)) c.report_of.ensures.log)
