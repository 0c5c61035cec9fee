use Rattle.std.proofs.Common.{◌≡◌, ◌<◌, ◌^◌, is_some, arith}
use Rattle.std.proofs.lemmas.Result.{err_from_is_err_and}
use Rattle.commandline.specs.CommandLine.{version_by}
use Rattle.runner.specs.Logs.{outside_of}
use Rattle.runner.specs.declared.fault.RunFault.TheVariants.{Broken}
use Rattle.answers.specs.declared.source_run.RunSourceFault.TheVariants.{Run}
use Rattle.answers.proofs.RunsExplained.{run_by_seed_explained, run_sound}
use Rattle.answers.proofs.source_run.run_by_seed.Goals as goal

pub returns-in_err-run_by_seed-clause-sound : goal.returns-in_err-run_by_seed-clause-sound
returns-in_err-run_by_seed-clause-sound c =
    let below : c.args.limit < 2 ^ 32 = omega (arith, c.ranges.limit.fits) in
    let p = err_from_is_err_and c.from_residual-in_err-run_by_seed.result c.from_residual-in_err-run_by_seed.ensures.1 in
    let fault = c.in_err-run_by_seed.field-0.0 in
    rw (p.1, p.2) (λ (same : Run fault ≡ Run Broken). run_sound c.logs_are_machine_runs.ensures.runs
    c.logs_are_machine_runs.ensures.locally (version_by c.args.exits) c.args.text.now c.in_ok-image.image
    (outside_of (is_some c.args.strays) c.args.kills) c.args.limit fault c.in_ok-image.ensures.accepted c.in_err-run_by_seed.ensures.err below cc)

pub returns-clause-report : goal.returns-clause-report
returns-clause-report c =
    let small : c.args.limit < 2 ^ 32 = omega (arith, c.ranges.limit.fits) in
    run_by_seed_explained c.logs_are_machine_runs.ensures.runs (version_by c.args.exits) c.args.text.now
    c.in_ok-image.image c.args.strays c.args.kills c.args.limit c.args.seed c.in_ok-run_by_seed.field-0
    c.in_ok-image.ensures.accepted small c.in_ok-run_by_seed.ensures.ok c.in_ok-run_by_seed.ensures.seeded
