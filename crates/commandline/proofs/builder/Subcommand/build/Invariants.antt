use Rattle.std.proofs.Common.{◌≡◌, drop, false}
use Rattle.clap.specs.Words.{app_of}
use Rattle.clap.specs.declared.builder.command.Command.TheViews.{out-Command as fields_of}
use Rattle.commandline.specs.CommandLine as line
use Rattle.commandline.proofs.builder.Subcommand.build.Given as goal

-- with the arguments that are left it is the whole command
abbrev pub invariant-loop-argument : goal.invariant-loop-argument
invariant-loop-argument l =
    (line.with_arguments (app_of l.command) (drop l.argument-index l.argument-items) ≡ line.app_for l.self)
    × ((fields_of l.command).has_globals ≡ false)
