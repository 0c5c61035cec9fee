use Rattle.std.proofs.Common.{◌<◌, ◌^◌, arith}
use Rattle.answers.specs.Alone.{outside_alone}
use Rattle.answers.proofs.RunsExplained.{run_sound}
use Rattle.answers.proofs.explained_run.run_image.Goals as goal

pub unreachable-requires : goal.unreachable-requires
unreachable-requires c =
    let below : c.args.limit < 2 ^ 32 = omega (arith, c.ranges.limit.fits) in
    run_sound c.logs_are_machine_runs.ensures.runs c.logs_are_machine_runs.ensures.locally c.requires.0 c.requires.1
    c.args.image.now (outside_alone c.args.order) c.args.limit c.in-Err-Broken.field-0 c.requires.2
    c.in-Err-Broken.ensures.err below c.in-Err-Broken.field-0-is
