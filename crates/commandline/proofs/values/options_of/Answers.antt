use Rattle.std.proofs.Common.{rules, codes, refl, sym, ◌∙◌}
use Rattle.clap.specs.Words.{found_of}
use Rattle.clap.proofs.WalkLemmas.{first_value-rows, one_text-rows}
use Rattle.commandline.proofs.values.options_of.Goals as goal

pub returns-in_err-steps-clause-none : goal.returns-in_err-steps-clause-none
returns-in_err-steps-clause-none c = λ _ o h. c.in_err-steps.ensures.none refl o.steps h.0

pub returns-in_err-order-clause-none : goal.returns-in_err-order-clause-none
returns-in_err-order-clause-none c = λ _ o h. c.in_err-order.ensures.none refl o.order h.1

pub returns-clause-options : goal.returns-clause-options
returns-clause-options c =
    let found = found_of c.args.matches.now in
    let log = first_value-rows found (codes "log") in
    let trace = one_text-rows found (codes "trace") in (
      c.in_ok-steps.ensures.number,
      c.in_ok-order.ensures.order,
      (search rules, search rules),
      sym log ∙ sym c.get_str-log.ensures,
    )
