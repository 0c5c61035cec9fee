use Rattle.std.proofs.Common.{codes, sym, ◌∙◌}
use Rattle.clap.proofs.WalkLemmas.{first_value-rows}
use Rattle.clap.specs.Words.{found_of}
use Rattle.commandline.proofs.sources.search_files_of.Goals as goal

pub returns : goal.returns
returns c =
    let found = found_of c.args.matches.now in
    let schedule = first_value-rows found (codes "schedule") in
    let chart = first_value-rows found (codes "chart") in
    let timeline = first_value-rows found (codes "timeline") in (
      sym schedule ∙ sym c.get_str-schedule.ensures,
      sym chart ∙ sym c.get_str-chart.ensures,
      sym timeline ∙ sym c.get_str-timeline.ensures,
    )
