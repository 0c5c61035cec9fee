use Rattle.std.proofs.Common.{rules, codes, inl, inr, refl}
use Rattle.clap.proofs.WalkLemmas.{first_value-rows, one_text-rows}
use Rattle.clap.specs.Words.{found_of}
use Rattle.clap.specs.Walk.{rows_of}
use Rattle.commandline.proofs.NoJobs.{no_follow}
use Rattle.commandline.proofs.job.follow_of.Goals as goal

pub returns-in_err-file-clause-none : goal.returns-in_err-file-clause-none
returns-in_err-file-clause-none c =
    let file = first_value-rows (found_of c.args.matches.now) (codes "FILE") in
    λ _ job. no_follow (rows_of (found_of c.args.matches.now)) job c.args.form c.requires (inr (inl (search rules)))

pub returns-in_err-exits-clause-none : goal.returns-in_err-exits-clause-none
returns-in_err-exits-clause-none c = λ _ job.
    no_follow (rows_of (found_of c.args.matches.now)) job c.args.form c.requires
    (inr (inr (inl (c.in_err-exits.ensures.none refl))))

pub returns-in_err-by-clause-none : goal.returns-in_err-by-clause-none
returns-in_err-by-clause-none c = λ _ job.
    no_follow (rows_of (found_of c.args.matches.now)) job c.args.form c.requires
    (inr (inr (inr (c.in_err-by.ensures.none refl))))

pub returns-clause-job : goal.returns-clause-job
returns-clause-job c =
    let found = found_of c.args.matches.now in
    let file = first_value-rows found (codes "FILE") in
    let trace = one_text-rows found (codes "trace") in
    let hints = one_text-rows found (codes "hints") in (
      search rules,
      c.requires,
      c.in_ok-exits.ensures.exits,
      c.in_ok-by.ensures.by,
      (search rules, search rules),
      search rules,
      (search rules, search rules),
    )
