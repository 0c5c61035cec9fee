use Rattle.std.proofs.Common.{rules, codes, inl, inr}
use Rattle.clap.proofs.WalkLemmas.{first_value-rows, one_text-rows}
use Rattle.clap.specs.Words.{found_of}
use Rattle.clap.specs.Walk.{rows_of}
use Rattle.commandline.proofs.NoJobs.{no_shrink}
use Rattle.commandline.proofs.job.shrink_of.Goals as goal

pub returns-in_err-file-clause-none : goal.returns-in_err-file-clause-none
returns-in_err-file-clause-none c =
    let file = first_value-rows (found_of c.args.matches.now) (codes "FILE") in
    λ _ job. no_shrink (rows_of (found_of c.args.matches.now)) job (inl (search rules))

pub returns-in_err-schedule-clause-none : goal.returns-in_err-schedule-clause-none
returns-in_err-schedule-clause-none c =
    let schedule = first_value-rows (found_of c.args.matches.now) (codes "SCHEDULE") in
    λ _ job. no_shrink (rows_of (found_of c.args.matches.now)) job (inr (inl (search rules)))

pub returns-in_err-out-clause-none : goal.returns-in_err-out-clause-none
returns-in_err-out-clause-none c =
    let out = first_value-rows (found_of c.args.matches.now) (codes "OUT") in
    λ _ job. no_shrink (rows_of (found_of c.args.matches.now)) job (inr (inr (search rules)))

pub returns-clause-job : goal.returns-clause-job
returns-clause-job c =
    let found = found_of c.args.matches.now in
    let file = first_value-rows found (codes "FILE") in
    let schedule = first_value-rows found (codes "SCHEDULE") in
    let out = first_value-rows found (codes "OUT") in
    let hints = one_text-rows found (codes "hints") in (
      search rules,
      c.linux_of-exits.ensures,
      search rules,
      search rules,
      (search rules, search rules),
    )
