use Rattle.std.proofs.Common.{rules, codes, inl, inr, refl}
use Rattle.clap.proofs.WalkLemmas.{first_value-rows}
use Rattle.clap.specs.Words.{found_of}
use Rattle.clap.specs.Walk.{rows_of}
use Rattle.commandline.proofs.NoJobs.{no_exec}
use Rattle.commandline.proofs.job.exec_of.Goals as goal

pub returns-in_err-image-clause-none : goal.returns-in_err-image-clause-none
returns-in_err-image-clause-none c =
    let name = first_value-rows (found_of c.args.matches.now) (codes "IMAGE") in
    λ _ job. no_exec (rows_of (found_of c.args.matches.now)) job (inl (search rules))

pub returns-in_err-exits-clause-none : goal.returns-in_err-exits-clause-none
returns-in_err-exits-clause-none c = λ _ job.
    no_exec (rows_of (found_of c.args.matches.now)) job (inr (inl (c.in_err-exits.ensures.none refl)))

pub returns-in_err-options-clause-none : goal.returns-in_err-options-clause-none
returns-in_err-options-clause-none c =
    λ _ job. no_exec (rows_of (found_of c.args.matches.now)) job (inr (inr (search rules)))

pub returns-clause-job : goal.returns-clause-job
returns-clause-job c =
    let name = first_value-rows (found_of c.args.matches.now) (codes "IMAGE") in
    (search rules, c.image_form_of-form.ensures, c.in_ok-exits.ensures.exits, c.in_ok-options.ensures.options)
