use Rattle.std.proofs.Common.{rules, codes, inl, inr, refl}
use Rattle.clap.specs.Words.{found_of}
use Rattle.clap.specs.Walk.{rows_of}
use Rattle.clap.proofs.WalkLemmas.{first_value-rows}
use Rattle.commandline.proofs.NoSources.{no_actions, no_chart}
use Rattle.commandline.proofs.values.chart_of.Goals as goal

pub returns-in_err-from-clause-none : goal.returns-in_err-from-clause-none
returns-in_err-from-clause-none c = λ _ chart.
    no_actions (rows_of (found_of c.args.matches.now)) chart (inl (c.in_err-from.ensures.none refl))

pub returns-in_err-to-clause-none : goal.returns-in_err-to-clause-none
returns-in_err-to-clause-none c = λ _ chart.
    no_actions (rows_of (found_of c.args.matches.now)) chart (inr (c.in_err-to.ensures.none refl))

pub returns-in-Some-clause-chart : goal.returns-in-Some-clause-chart
returns-in-Some-clause-chart c =
    let value = first_value-rows (found_of c.args.matches.now) (codes "chart") in
    (search rules, c.in_ok-from.ensures.action, c.in_ok-to.ensures.action)

pub returns-in-None-clause-none : goal.returns-in-None-clause-none
returns-in-None-clause-none c =
    let value = first_value-rows (found_of c.args.matches.now) (codes "chart") in
    λ _ chart. no_chart (rows_of (found_of c.args.matches.now)) chart (search rules) (search rules)

pub returns-in-None-2-clause-chart : goal.returns-in-None-2-clause-chart
returns-in-None-2-clause-chart c =
    let value = first_value-rows (found_of c.args.matches.now) (codes "chart") in
    (search rules, search rules)
