use Rattle.std.proofs.Common.{◌∙◌, ap, refl}
use Rattle.clap.specs.Simple.{app_of_fields}
use Rattle.clap.specs.Words.{app_of, rule_of}
use Rattle.commandline.specs.CommandLine as line
use Rattle.commandline.proofs.Growing.{argument_added, arguments_added}
use Rattle.commandline.proofs.builder.Subcommand.build.Goals as goal

pub loop-argument-init : goal.loop-argument-init
loop-argument-init c = (
  ap (λ app. line.with_arguments app c.args.self.now.arguments.now) (ap app_of_fields c.about-command.ensures
      ∙ c.new.ensures.app),
  rw (c.about-command.ensures, c.new.ensures.local) refl,
)

pub loop-argument-preserved : goal.loop-argument-preserved
loop-argument-preserved c = (
  argument_added (app_of c.loop-argument.command) _ _ (rule_of c.build.result) _ c.loop-argument.argument-index _
      c.loop-argument-test.true (c.in_ok-command.ensures.shape c.build.ensures.local) c.build.ensures.rule
      c.loop-argument.invariant.0,
  rw (c.in_ok-command.ensures.globals, c.build.ensures.local, c.loop-argument.invariant.1) refl,
)

pub returns : goal.returns
returns c = (
  arguments_added _ _ _ c.loop-argument.argument-index c.loop-argument-test.false c.loop-argument.invariant.0,
  c.loop-argument.invariant.1,
)
