use Rattle.clap.specs.Words.{app_of}
use Rattle.commandline.proofs.Growing.{subcommand_added, subcommands_added}
use Rattle.commandline.proofs.builder.with_subcommands.Goals as goal

pub loop-subcommand-preserved : goal.loop-subcommand-preserved
loop-subcommand-preserved c =
    subcommand_added (app_of c.loop-subcommand.command) _ _ (app_of c.in_ok-subcommand.subcommand)
    c.args.subcommands.now c.loop-subcommand.subcommand-index _ c.loop-subcommand-test.true
    (c.in_ok-command.ensures.shape c.in_ok-subcommand.ensures.1) c.in_ok-subcommand.ensures.0
    c.loop-subcommand.invariant

pub returns : goal.returns
returns c =
    subcommands_added _ _ _ c.loop-subcommand.subcommand-index c.loop-subcommand-test.false
    c.loop-subcommand.invariant
