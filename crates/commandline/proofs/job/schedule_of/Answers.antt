use Rattle.std.proofs.Common.{rules, codes, inl, inr, refl}
use Rattle.clap.proofs.WalkLemmas.{first_value-rows, one_text-rows}
use Rattle.clap.specs.Words.{found_of}
use Rattle.clap.specs.Walk.{rows_of}
use Rattle.commandline.proofs.NoJobs.{no_schedule}
use Rattle.commandline.proofs.job.schedule_of.Goals as goal

pub returns-in_err-log-clause-none : goal.returns-in_err-log-clause-none
returns-in_err-log-clause-none c =
    let log = first_value-rows (found_of c.args.matches.now) (codes "LOG") in
    λ _ job. no_schedule (rows_of (found_of c.args.matches.now)) job (inl (search rules))

pub returns-in_err-out-clause-none : goal.returns-in_err-out-clause-none
returns-in_err-out-clause-none c =
    let out = first_value-rows (found_of c.args.matches.now) (codes "OUT") in
    λ _ job. no_schedule (rows_of (found_of c.args.matches.now)) job (inr (inl (search rules)))

pub returns-in_err-steps-clause-none : goal.returns-in_err-steps-clause-none
returns-in_err-steps-clause-none c = λ _ job.
    no_schedule (rows_of (found_of c.args.matches.now)) job (inr (inr (c.in_err-steps.ensures.none refl)))

pub returns-clause-job : goal.returns-clause-job
returns-clause-job c =
    let found = found_of c.args.matches.now in
    let log = first_value-rows found (codes "LOG") in
    let out = first_value-rows found (codes "OUT") in
    let hints = one_text-rows found (codes "hints") in
    (search rules, search rules, c.in_ok-steps.ensures.number, (search rules, search rules))
