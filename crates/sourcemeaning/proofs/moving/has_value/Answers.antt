use Rattle.std.proofs.Common.{ap, pos, sym, ◌∙◌}
use Rattle.program.specs.Views.{expression_of, option_expression, program_of}
use Rattle.meaning.specs.Offers.{return_value}
use Rattle.meaning.specs.Values.{evaluate}
use Rattle.source_offers.specs.Frames.{frame_of}
use Rattle.source_states.specs.States.{state_of}
use Rattle.sourcemeaning.proofs.Ready.{has_value}
use Rattle.sourcemeaning.proofs.moving.has_value.Goals as goal

pub returns-in-None : goal.returns-in-None
returns-in-None c = (
  pos 0,
  ap (λ o. return_value (program_of c.args.program.now) (state_of c.args.state.now).variable (frame_of c.args.frame.now)
      (option_expression o)) c.in-None.is,
)

pub returns-in-Some : goal.returns-in-Some
returns-in-Some c =
    rw c.is_ok.ensures.value
    (has_value c.evaluate.result
    (return_value (program_of c.args.program.now) (state_of c.args.state.now).variable (frame_of c.args.frame.now)
    (option_expression c.args.value.now))
    (c.evaluate.ensures
    ∙ (λ i. evaluate (program_of c.args.program.now) (c.variables.ensures i) (c.as_slice-locals.ensures.value i)
    (expression_of c.in-Some.value))
    ∙ ap (λ o. return_value (program_of c.args.program.now) (state_of c.args.state.now).variable
    (frame_of c.args.frame.now) (option_expression o)) (sym c.in-Some.is)))
