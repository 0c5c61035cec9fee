use Rattle.std.proofs.Common.{rules, codes}
use Rattle.clap.proofs.WalkLemmas.{first_value-rows, one_text-rows}
use Rattle.clap.specs.Words.{found_of}
use Rattle.clap.specs.Walk.{rows_of}
use Rattle.commandline.proofs.NoJobs.{no_fmt}
use Rattle.commandline.proofs.job.fmt_of.Goals as goal

pub returns-in_err-file-clause-none : goal.returns-in_err-file-clause-none
returns-in_err-file-clause-none c =
    let file = first_value-rows (found_of c.args.matches.now) (codes "FILE") in
    λ _ job. no_fmt (rows_of (found_of c.args.matches.now)) job (search rules)

pub returns-clause-job : goal.returns-clause-job
returns-clause-job c =
    let found = found_of c.args.matches.now in
    let file = first_value-rows found (codes "FILE") in
    let check = one_text-rows found (codes "check") in
    let hints = one_text-rows found (codes "hints") in
    (search rules, (search rules, search rules), (search rules, search rules))
