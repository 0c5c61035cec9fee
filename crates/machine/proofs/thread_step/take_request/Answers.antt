-- The thread goes on with the answer, or the refusal is handed on.
use Rattle.std.proofs.Common.{◌∙◌, sym, Ok, None}
use Rattle.locals.specs.Looks.{look}
use Rattle.machine.specs.Views.{common}
use Rattle.machine.proofs.Steps.{shared_so, shared_err, hand_on}
use Rattle.machine.proofs.thread_step.take_request.Goals as goal

pub returns-in_err-answer-clause-err : goal.returns-in_err-answer-clause-err
returns-in_err-answer-clause-err c =
    hand_on c.from_residual.result c.in_err-answer.field-0.0 _ c.from_residual.ensures.1 (λ made.
    shared_err _ made c.args.t (common c.args.shared.now) (common c.serve.new.self)
    (look c.args.image.now c.args.t c.args.local.now) c.args.request c.in_err-answer.field-0.0 c.serve.new.event
    c.requires.asks c.in_err-answer.ensures.gives)

pub returns-clause-done : goal.returns-clause-done
returns-clause-done c = λ made.
    let after = common c.serve.new.self in
    shared_so _ made c.args.t (common c.args.shared.now) after
    (look c.args.image.now c.args.t c.args.local.now) c.args.local.now c.args.request c.in_ok-answer.answer
    c.serve.new.event c.requires.asks c.in_ok-answer.ensures.gives
    ∙ (λ i. Ok (record {
      common = after;
      thread = sym c.go_on.ensures i;
      child = None;
      event = c.serve.new.event;
    }))
