use Rattle.std.proofs.Common.{ap, ◌∙◌}
use Rattle.clap.specs.Words.{found_of}
use Rattle.commandline.specs.CommandLine as line
use Rattle.commandline.proofs.Written.{source-rows}
use Rattle.commandline.proofs.values.is_written.Goals as goal

pub returns : goal.returns
returns c =
    c.is_of_words.ensures ∙ ap line.is_of_words (c.value_source.ensures
    ∙ source-rows (found_of c.args.matches.now) c.args.id.now)
