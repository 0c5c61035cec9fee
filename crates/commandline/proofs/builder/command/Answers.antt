use Rattle.std.proofs.Common.{rules}
use Rattle.clap.specs.Words.{app_of}
use Rattle.commandline.specs.CommandLine as line
use Rattle.commandline.proofs.Growing.{from_top}
use Rattle.commandline.proofs.builder.command.Goals as goal

pub returns : goal.returns
returns c =
    from_top c.with_subcommands.result (app_of c.subcommand_required-command.result) line.top_command
    line.command_line c.subcommands.result.now (search rules) c.subcommands.ensures c.with_subcommands.ensures
