use Rattle.std.proofs.Common.{rules, codes, inl, inr, refl, sym, ◌∙◌}
use Rattle.clap.proofs.WalkLemmas.{first_value-rows, one_text-rows}
use Rattle.clap.specs.Words.{found_of}
use Rattle.clap.specs.Walk.{rows_of}
use Rattle.commandline.proofs.NoJobs.{no_explore}
use Rattle.commandline.proofs.job.explored_of.Goals as goal

pub returns-in_err-file-clause-none : goal.returns-in_err-file-clause-none
returns-in_err-file-clause-none c =
    let file = first_value-rows (found_of c.args.matches.now) (codes "FILE") in
    λ _ job. no_explore (rows_of (found_of c.args.matches.now)) job c.requires (inr (inl (search rules)))

pub returns-in_err-states-clause-none : goal.returns-in_err-states-clause-none
returns-in_err-states-clause-none c = λ _ job.
    no_explore (rows_of (found_of c.args.matches.now)) job c.requires
    (inr (inr (inl (c.in_err-states.ensures.none refl))))

pub returns-in_err-kills-clause-none : goal.returns-in_err-kills-clause-none
returns-in_err-kills-clause-none c = λ _ job.
    no_explore (rows_of (found_of c.args.matches.now)) job c.requires
    (inr (inr (inr (inl (c.in_err-kills.ensures.none refl)))))

pub returns-in_err-chart-clause-none : goal.returns-in_err-chart-clause-none
returns-in_err-chart-clause-none c = λ _ job.
    no_explore (rows_of (found_of c.args.matches.now)) job c.requires
    (inr (inr (inr (inr (c.in_err-chart.ensures.none refl)))))

pub returns-clause-job : goal.returns-clause-job
returns-clause-job c =
    let found = found_of c.args.matches.now in
    let file = first_value-rows found (codes "FILE") in
    let strays = one_text-rows found (codes "strays") in
    let ends = one_text-rows found (codes "ends") in
    let timeline = first_value-rows found (codes "timeline") in
    let page = first_value-rows found (codes "page") in
    let schedule = first_value-rows found (codes "schedule") in
    let actions = first_value-rows found (codes "actions") in
    let places = one_text-rows found (codes "places") in
    let hints = one_text-rows found (codes "hints") in (
      search rules,
      c.linux_of-exits.ensures,
      c.in_ok-states.ensures.number,
      (search rules, search rules),
      c.in_ok-kills.ensures.number,
      (search rules, search rules),
      c.in_ok-chart.ensures.chart,
      sym timeline ∙ sym c.get_str-timeline.ensures,
      sym page ∙ sym c.get_str-page.ensures,
      sym schedule ∙ sym c.get_str-schedule.ensures,
      sym actions ∙ sym c.get_str-actions.ensures,
      (search rules, search rules),
      (search rules, search rules),
      c.requires,
      search rules,
    )
