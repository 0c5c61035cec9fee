use Rattle.log_text.proofs.Entries.{event_there, no_event, no_name, no_space, no_turn, step_is, turn_text}
use Rattle.log_text.proofs.fields.read_step.Goals as goal

pub returns-in_default : goal.returns-in_default
returns-in_default c = λ o step is.
    let cut = c.cut-called.ensures in
    let w = c.cut-called.result in
    no_name o w.front.now w.rest.now
    (step_is o c.args.text.now w.front.now w.rest.now cut.whole cut.front cut.rest is) c.in_default.ensures

pub returns-in_default-past_byte : goal.returns-in_default-past_byte
returns-in_default-past_byte c = λ o step is.
    let cut = c.cut-called.ensures in
    let w = c.cut-called.result in
    no_space o w.front.now w.rest.now
    (step_is o c.args.text.now w.front.now w.rest.now cut.whole cut.front cut.rest is) c.in_default-past_byte.ensures

pub returns-then-are_same : goal.returns-then-are_same
returns-then-are_same c =
    let cut = c.cut-called.ensures in
    let w = c.cut-called.result in (
      tt,
      turn_text c.args.text.now w.front.now w.rest.now c.in-Some-past_byte.value.now c.in-Some.name cut.whole c.in-Some.ensures
          c.if-is_local.ensures c.in-Some-past_byte.ensures c.if-are_same.ensures,
    )

pub returns-then-is_local : goal.returns-then-is_local
returns-then-is_local c = λ o step is.
    let cut = c.cut-called.ensures in
    let w = c.cut-called.result in
    no_turn o w.front.now w.rest.now c.in-Some-past_byte.value.now c.in-Some.name
    (step_is o c.args.text.now w.front.now w.rest.now cut.whole cut.front cut.rest is) step c.in-Some.ensures
    c.if-is_local.ensures c.in-Some-past_byte.ensures c.if-are_same.ensures

pub returns-in-None : goal.returns-in-None
returns-in-None c = λ o step is.
    let cut = c.cut-called.ensures in
    let w = c.cut-called.result in
    no_event o w.front.now w.rest.now c.in-Some-past_byte.value.now c.in-Some.name
    (step_is o c.args.text.now w.front.now w.rest.now cut.whole cut.front cut.rest is) step c.in-Some.ensures
    c.if-is_local.ensures c.in-Some-past_byte.ensures c.in-None.ensures

pub returns-in-Some-read_event : goal.returns-in-Some-read_event
returns-in-Some-read_event c =
    let cut = c.cut-called.ensures in
    let w = c.cut-called.result in (
      c.in-Some-read_event.ensures.0,
      event_there c.args.text.now w.front.now w.rest.now c.in-Some-past_byte.value.now c.in-Some.name c.in-Some-read_event.event cut.whole
          c.in-Some.ensures c.in-Some-past_byte.ensures c.in-Some-read_event.ensures.1,
    )
