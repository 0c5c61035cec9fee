use Rattle.std.proofs.Common.{rules, codes, ◌∙◌, sym}
use Rattle.clap.proofs.WalkLemmas.{first_value-rows}
use Rattle.clap.specs.Words.{found_of}
use Rattle.clap.specs.Walk.{rows_of}
use Rattle.commandline.proofs.NoSources.{no_scheduled}
use Rattle.commandline.proofs.sources.replayed_by_schedule.Goals as goal

pub returns-clause-by : goal.returns-clause-by
returns-clause-by c =
    let log = first_value-rows (found_of c.args.matches.now) (codes "log") in
    (c.requires, sym log ∙ sym c.get_str-log.ensures, search rules)
