use Rattle.std.proofs.Common.{inr}
use Rattle.commandline.specs.CommandLine.{version_by}
use Rattle.compiler.specs.Accepts.{RefusesTextAs}
use Rattle.answers.specs.Causes.{FailsTextLog}
use Rattle.answers.specs.SourceLog.{HasBadEntry}
use Rattle.answers.proofs.Refusing.{failure_left, left_by, log_left, long_log}
use Rattle.answers.proofs.explaining.explain_log.Goals as goal

pub returns-in_err-check_bytes-clause-left : goal.returns-in_err-check_bytes-clause-left
returns-in_err-check_bytes-clause-left c =
    let v = version_by c.args.text.now.exits in
    let text = c.args.text.now.bytes.now in
    let lines = c.args.lines.now in
    let fault = c.in_err-check_bytes.field-0.0 in
    left_by _ _ _ c.from_residual.ensures
    (λ n gives. failure_left (RefusesTextAs v text) (λ e. ⊥) (FailsTextLog (HasBadEntry v text lines) c.args.steps text lines) n
    fault gives (inr (long_log (HasBadEntry v text lines) c.args.steps text lines fault c.in_err-check_bytes.ensures)))

pub returns-in-Err-clause-left : goal.returns-in-Err-clause-left
returns-in-Err-clause-left c =
    log_left _ _ _ _ _ c.told_entry.result c.in-Err.ensures.fault c.told_entry.ensures
