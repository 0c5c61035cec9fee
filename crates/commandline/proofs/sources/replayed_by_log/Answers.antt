use Rattle.std.proofs.Common.{rules, codes, inl, inr, refl}
use Rattle.clap.proofs.WalkLemmas.{first_value-rows}
use Rattle.clap.specs.Words.{found_of}
use Rattle.clap.specs.Walk.{rows_of}
use Rattle.commandline.proofs.NoSources.{no_replayed}
use Rattle.commandline.proofs.sources.replayed_by_log.Goals as goal

pub returns-in_err-log-clause-none : goal.returns-in_err-log-clause-none
returns-in_err-log-clause-none c =
    let log = first_value-rows (found_of c.args.matches.now) (codes "log") in
    λ _ r. no_replayed (rows_of (found_of c.args.matches.now)) r c.requires (inl (search rules))

pub returns-in_err-steps-clause-none : goal.returns-in_err-steps-clause-none
returns-in_err-steps-clause-none c = λ _ r.
    no_replayed (rows_of (found_of c.args.matches.now)) r c.requires (inr (c.in_err-steps.ensures.none refl))

pub returns-clause-by : goal.returns-clause-by
returns-clause-by c =
    let log = first_value-rows (found_of c.args.matches.now) (codes "log") in
    (c.requires, search rules, c.in_ok-steps.ensures.number)
