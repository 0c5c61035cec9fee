use Rattle.std.proofs.Common.{rules, codes, inl, inr, refl}
use Rattle.clap.proofs.WalkLemmas.{first_value-rows, one_text-rows}
use Rattle.clap.specs.Words.{found_of}
use Rattle.clap.specs.Walk.{rows_of}
use Rattle.commandline.proofs.NoJobs.{no_compile}
use Rattle.commandline.proofs.job.compile_of.Goals as goal

pub returns-in_err-file-clause-none : goal.returns-in_err-file-clause-none
returns-in_err-file-clause-none c =
    let file = first_value-rows (found_of c.args.matches.now) (codes "FILE") in
    λ _ job. no_compile (rows_of (found_of c.args.matches.now)) job (inl (search rules))

pub returns-in_err-out-clause-none : goal.returns-in_err-out-clause-none
returns-in_err-out-clause-none c =
    let out = first_value-rows (found_of c.args.matches.now) (codes "OUT") in
    λ _ job. no_compile (rows_of (found_of c.args.matches.now)) job (inr (inl (search rules)))

pub returns-in_err-workers-clause-none : goal.returns-in_err-workers-clause-none
returns-in_err-workers-clause-none c = λ _ job.
    no_compile (rows_of (found_of c.args.matches.now)) job (inr (inr (inl (c.in_err-workers.ensures.none refl))))

pub returns-in_err-version-clause-none : goal.returns-in_err-version-clause-none
returns-in_err-version-clause-none c = λ _ job.
    no_compile (rows_of (found_of c.args.matches.now)) job (inr (inr (inr (c.in_err-version.ensures.none refl))))

pub returns-clause-job : goal.returns-clause-job
returns-clause-job c =
    let found = found_of c.args.matches.now in
    let file = first_value-rows found (codes "FILE") in
    let out = first_value-rows found (codes "OUT") in
    let hints = one_text-rows found (codes "hints") in
    (search rules, search rules, c.in_ok-workers.ensures.number, c.in_ok-version.ensures.version, (search rules, search rules))
