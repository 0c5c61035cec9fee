use Rattle.std.proofs.Common.{rules, codes, inl, inr, refl}
use Rattle.clap.proofs.WalkLemmas.{first_value-rows}
use Rattle.clap.specs.Words.{found_of}
use Rattle.clap.specs.Walk.{rows_of}
use Rattle.commandline.proofs.NoSources.{no_log}
use Rattle.commandline.proofs.sources.by_log.Goals as goal

pub returns-in_err-log-clause-none : goal.returns-in_err-log-clause-none
returns-in_err-log-clause-none c =
    let value = first_value-rows (found_of c.args.matches.now) (codes "log") in
    λ _ e. no_log (rows_of (found_of c.args.matches.now)) e c.requires (inr (inl (search rules)))

pub returns-in_err-steps-clause-none : goal.returns-in_err-steps-clause-none
returns-in_err-steps-clause-none c = λ _ e.
    no_log (rows_of (found_of c.args.matches.now)) e c.requires (inr (inr (c.in_err-steps.ensures.none refl)))

pub returns-clause-by : goal.returns-clause-by
returns-clause-by c =
    let value = first_value-rows (found_of c.args.matches.now) (codes "log") in
    (search rules, c.requires, search rules, c.in_ok-steps.ensures.number)
