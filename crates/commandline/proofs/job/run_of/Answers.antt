use Rattle.std.proofs.Common.{rules, codes, inl, inr, sym, ◌∙◌}
use Rattle.clap.proofs.WalkLemmas.{first_value-rows, one_text-rows}
use Rattle.clap.specs.Words.{found_of}
use Rattle.clap.specs.Walk.{rows_of}
use Rattle.commandline.proofs.NoJobs.{no_run}
use Rattle.commandline.proofs.job.run_of.Goals as goal

pub returns-in_err-file-clause-none : goal.returns-in_err-file-clause-none
returns-in_err-file-clause-none c =
    let name = first_value-rows (found_of c.args.matches.now) (codes "FILE") in
    λ _ job. no_run (rows_of (found_of c.args.matches.now)) job (inl (search rules))

pub returns-in_err-options-clause-none : goal.returns-in_err-options-clause-none
returns-in_err-options-clause-none c =
    λ _ job. no_run (rows_of (found_of c.args.matches.now)) job (inr (search rules))

pub returns-clause-job : goal.returns-clause-job
returns-clause-job c =
    let found = found_of c.args.matches.now in
    let name = first_value-rows found (codes "FILE") in
    let page = first_value-rows found (codes "page") in
    let hints = one_text-rows found (codes "hints") in (
      search rules,
      c.linux_of-exits.ensures,
      c.in_ok-options.ensures.options,
      sym page ∙ sym c.get_str-page.ensures,
      (search rules, search rules),
    )
