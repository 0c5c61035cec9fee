use Rattle.std.proofs.Common.{◌++◌, ◌∷◌, ◌∙◌, ap, drop, sym, rules}
use Rattle.std.specs.Fmt.{decimal}
use Rattle.machine.specs.declared.event.Entry.{Entry}
use Rattle.log_text.specs.LogLines.{step_text}
use Rattle.log_text.proofs.Entries.{line_is, line_parts}
use Rattle.log_text.proofs.Rising.{no_digit_space}
use Rattle.log_text.proofs.fields.read_line.Goals as goal

pub returns-in_default : goal.returns-in_default
returns-in_default c = λ e sized is.
    c.in_default.ensures.reads e.thread (32 ∷ (decimal e.local ++ (32 ∷ step_text e.event))) sized.thread
    (no_digit_space (decimal e.local ++ (32 ∷ step_text e.event))) (line_parts e c.args.line.now is)

pub returns-in_default-spaced_number : goal.returns-in_default-spaced_number
returns-in_default-spaced_number c = λ e sized is.
    let first = c.in-Some.ensures.reads e.thread (32 ∷ (decimal e.local ++ (32 ∷ step_text e.event))) sized.thread
    (no_digit_space (decimal e.local ++ (32 ∷ step_text e.event))) (line_parts e c.args.line.now is) in
    c.in_default-spaced_number.ensures.reads e.local (32 ∷ step_text e.event) sized.local (no_digit_space (step_text e.event)) first.1

pub returns-in_default-past_byte : goal.returns-in_default-past_byte
returns-in_default-past_byte c = λ e sized is.
    let first = c.in-Some.ensures.reads e.thread (32 ∷ (decimal e.local ++ (32 ∷ step_text e.event))) sized.thread
    (no_digit_space (decimal e.local ++ (32 ∷ step_text e.event))) (line_parts e c.args.line.now is) in
    let second = c.in-Some-spaced_number.ensures.reads e.local (32 ∷ step_text e.event) sized.local
    (no_digit_space (step_text e.event)) first.1 in
    c.in_default-past_byte.ensures (step_text e.event) second.1

pub returns-in-None : goal.returns-in-None
returns-in-None c = λ e sized is.
    let first = c.in-Some.ensures.reads e.thread (32 ∷ (decimal e.local ++ (32 ∷ step_text e.event))) sized.thread
    (no_digit_space (decimal e.local ++ (32 ∷ step_text e.event))) (line_parts e c.args.line.now is) in
    let second = c.in-Some-spaced_number.ensures.reads e.local (32 ∷ step_text e.event) sized.local
    (no_digit_space (step_text e.event)) first.1 in
    c.in-None.ensures e.event sized.step (ap (drop 1) (sym c.in-Some-past_byte.ensures ∙ second.1))

pub returns-in-Some-read_step : goal.returns-in-Some-read_step
returns-in-Some-read_step c =
    let e : Entry = record {
      thread = c.in-Some.thread;
      local = c.in-Some-spaced_number.local;
      event = c.in-Some-read_step.event;
    } in (
      record { thread = search rules; local = search rules; step = c.in-Some-read_step.ensures.0 },
      line_is c.args.line.now c.in-Some.after_thread.now c.in-Some-spaced_number.after_local.now c.in-Some-past_byte.step.now e
          c.in-Some.ensures.read c.in-Some-spaced_number.ensures.read c.in-Some-past_byte.ensures c.in-Some-read_step.ensures.1,
    )
