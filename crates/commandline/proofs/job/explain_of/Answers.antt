use Rattle.std.proofs.Common.{rules, codes, inl, inr, refl, sym, ◌∙◌}
use Rattle.clap.proofs.WalkLemmas.{first_value-rows, one_text-rows}
use Rattle.clap.specs.Words.{found_of}
use Rattle.clap.specs.Walk.{rows_of}
use Rattle.commandline.proofs.NoJobs.{no_explain}
use Rattle.commandline.proofs.job.explain_of.Goals as goal

pub returns-in_err-file-clause-none : goal.returns-in_err-file-clause-none
returns-in_err-file-clause-none c =
    let file = first_value-rows (found_of c.args.matches.now) (codes "FILE") in
    λ _ job. no_explain (rows_of (found_of c.args.matches.now)) job (search rules) (inl (search rules))

pub returns-in_err-by-clause-none : goal.returns-in_err-by-clause-none
returns-in_err-by-clause-none c = λ _ job.
    no_explain (rows_of (found_of c.args.matches.now)) job (search rules) (inr (inl (c.in_err-by.ensures.none refl)))

pub returns-in_err-chart-clause-none : goal.returns-in_err-chart-clause-none
returns-in_err-chart-clause-none c = λ _ job.
    no_explain (rows_of (found_of c.args.matches.now)) job (search rules) (inr (inr (c.in_err-chart.ensures.none refl)))

pub returns-clause-job : goal.returns-clause-job
returns-clause-job c =
    let found = found_of c.args.matches.now in
    let file = first_value-rows found (codes "FILE") in
    let timeline = first_value-rows found (codes "timeline") in
    let page = first_value-rows found (codes "page") in
    let places = one_text-rows found (codes "places") in
    let hints = one_text-rows found (codes "hints") in (
      search rules,
      c.linux_of-exits.ensures,
      c.in_ok-by.ensures.by,
      c.in_ok-chart.ensures.chart,
      sym timeline ∙ sym c.get_str-timeline.ensures,
      sym page ∙ sym c.get_str-page.ensures,
      (search rules, search rules),
      (search rules, search rules),
      search rules,
    )
