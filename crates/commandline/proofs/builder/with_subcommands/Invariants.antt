use Rattle.std.proofs.Common.{◌≡◌, drop}
use Rattle.clap.specs.Words.{app_of}
use Rattle.commandline.specs.CommandLine as line
use Rattle.commandline.proofs.builder.with_subcommands.Given as goal

-- with the subcommands that are left it is the whole command
abbrev pub invariant-loop-subcommand : goal.invariant-loop-subcommand
invariant-loop-subcommand l =
    line.with_subcommands (app_of l.command) (drop l.subcommand-index l.subcommands)
    ≡ line.with_subcommands (app_of l.initial.command) l.subcommands
