use Rattle.std.proofs.Common.{rules, ap, sym, ◌∙◌}
use Rattle.program.specs.Views.{program_of}
use Rattle.meaning.specs.Offers.{offer as offer_by}
use Rattle.source_offers.specs.Frames.{callers_of, frame_of}
use Rattle.source_offers.specs.Stages.{standing}
use Rattle.source_offers.specs.Stores.{variables_of}
use Rattle.source_offers.proofs.next_action.next_offer.Goals as goal

pub returns-in_default-abandon_next : goal.returns-in_default-abandon_next
returns-in_default-abandon_next c =
    search (
      rules,
      c.in_default-abandon_next.ensures (program_of c.args.program.now) (variables_of c.args.variables.now)
          c.in-Dying.cause,
    )

pub returns-in-Some : goal.returns-in-Some
returns-in-Some c =
    sym
    (ap (λ s. offer_by (program_of c.args.program.now) (variables_of c.args.variables.now)
    (standing s (frame_of c.args.process.now.frame) (callers_of c.args.process.now.callers.items)))
    c.in-Dying-stage.is
    ∙ c.in-Some.ensures (program_of c.args.program.now) (variables_of c.args.variables.now)
    c.in-Dying-stage.field-0)
