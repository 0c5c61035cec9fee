use Rattle.std.proofs.Common.{◌≡◌, ◌<◌, ◌^◌, arith}
use Rattle.std.proofs.lemmas.Result.{err_from_is_err_and}
use Rattle.commandline.specs.CommandLine.{version_by}
use Rattle.runner.specs.Logs.{nothing_outside}
use Rattle.runner.specs.declared.fault.RunFault.TheVariants.{Broken}
use Rattle.answers.specs.declared.source_run.RunSourceFault.TheVariants.{Run}
use Rattle.answers.proofs.RunsExplained.{run_in_order_explained, run_sound}
use Rattle.answers.proofs.source_run.run_in_order.Goals as goal

pub returns-in_err-run_in_order-clause-sound : goal.returns-in_err-run_in_order-clause-sound
returns-in_err-run_in_order-clause-sound g c =
    let below : c.args.limit < 2 ^ 32 = omega (arith, c.ranges.limit.fits) in
    let p = err_from_is_err_and c.from_residual-in_err-run_in_order.result c.from_residual-in_err-run_in_order.ensures.1 in
    let fault = c.in_err-run_in_order.field-0.0 in
    rw (p.1, p.2) (λ (same : Run fault ≡ Run Broken). run_sound c.logs_are_machine_runs.ensures.runs
    c.logs_are_machine_runs.ensures.locally (version_by c.args.exits) c.args.text.now
    c.in_ok-image.image nothing_outside c.args.limit fault c.in_ok-image.ensures.accepted c.in_err-run_in_order.ensures.err below cc)

pub returns-clause-report : goal.returns-clause-report
returns-clause-report g c =
    let small : c.args.limit < 2 ^ 32 = omega (arith, c.ranges.limit.fits) in
    run_in_order_explained c.logs_are_machine_runs.ensures.runs (version_by c.args.exits) c.args.text.now
    c.in_ok-image.image c.args.limit c.in_ok-run_in_order.field-0 c.in_ok-image.ensures.accepted small
    c.in_ok-run_in_order.ensures.ok c.in_ok-run_in_order.ensures.order
