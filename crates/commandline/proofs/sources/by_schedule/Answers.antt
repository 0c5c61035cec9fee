use Rattle.std.proofs.Common.{rules, codes, inr}
use Rattle.clap.proofs.WalkLemmas.{first_value-rows}
use Rattle.clap.specs.Words.{found_of}
use Rattle.clap.specs.Walk.{rows_of}
use Rattle.commandline.proofs.NoSources.{no_schedule}
use Rattle.commandline.proofs.sources.by_schedule.Goals as goal

pub returns-in_err-schedule-clause-none : goal.returns-in_err-schedule-clause-none
returns-in_err-schedule-clause-none c =
    let value = first_value-rows (found_of c.args.matches.now) (codes "schedule") in
    λ _ e. no_schedule (rows_of (found_of c.args.matches.now)) e c.requires (inr (search rules))

pub returns-clause-by : goal.returns-clause-by
returns-clause-by c =
    let value = first_value-rows (found_of c.args.matches.now) (codes "schedule") in
    (search rules, c.requires, search rules)
