use Rattle.std.proofs.Common.{rules, codes, ◌∙◌, sym}
use Rattle.clap.proofs.WalkLemmas.{first_value-rows}
use Rattle.clap.specs.Words.{found_of}
use Rattle.commandline.proofs.sources.replayed_by.Goals as goal

pub replayed_by_schedule-requires : goal.replayed_by_schedule-requires
replayed_by_schedule-requires c =
    let schedule = first_value-rows (found_of c.args.matches.now) (codes "SCHEDULE") in
    search rules

pub replayed_by_log-requires : goal.replayed_by_log-requires
replayed_by_log-requires c =
    let schedule = first_value-rows (found_of c.args.matches.now) (codes "SCHEDULE") in
    search rules
