use Rattle.std.proofs.Common.{◌+◌, ◌++◌, ◌∙◌, [], ◌∷◌, ap, arith, length, length-append, map, sym}
use Rattle.std.proofs.lemmas.Bool.{eqb-true}
use Rattle.program.specs.Names.{naming_of}
use Rattle.source_states.specs.Actions.{action_of}
use Rattle.log_text.proofs.Logs.{line_shorter, some_left}
use Rattle.action_text.specs.ActionText.{run_lines}
use Rattle.action_text.proofs.Lines.{line_more, no_action, no_bad_line, no_end, pushed, read_whole, readable_more, run_grows}
use Rattle.action_text.proofs.Passing.{none_of, some_of}
use Rattle.action_text.proofs.reading.read_actions.Goals as goal

pub returns-then-is_empty-clause-read : goal.returns-then-is_empty-clause-read
returns-then-is_empty-clause-read c =
    let l = c.loop-rest in
    let cut = c.cut-line.ensures in
    record {
      before = map action_of l.actions.items;
      rest = l.rest.now;
      cut = l.invariant.cut;
      readable = l.invariant.readable;
      counted = omega (arith, l.invariant.number);
      more = some_left (length l.rest.now) c.loop-rest-test.ensures;
      none = no_end (naming_of c.args.names.now) l.rest.now c.cut-line.result.front.now c.cut-line.result.rest.now cut.whole
          cut.front cut.rest (eqb-true (length c.cut-line.result.rest.now) 0 (sym c.if-is_empty.ensures));
    }

pub returns-then-is_empty-clause-reads : goal.returns-then-is_empty-clause-reads
returns-then-is_empty-clause-reads c = λ run is.
    absurd (no_bad_line (naming_of c.args.names.now) c.args.text.now run (c.loop-rest.number + 1) is
    (returns-then-is_empty-clause-read c))

pub returns-in_default-clause-read : goal.returns-in_default-clause-read
returns-in_default-clause-read c =
    let l = c.loop-rest in
    let cut = c.cut-line.ensures in
    record {
      before = map action_of l.actions.items;
      rest = l.rest.now;
      cut = l.invariant.cut;
      readable = l.invariant.readable;
      counted = omega (arith, l.invariant.number);
      more = some_left (length l.rest.now) c.loop-rest-test.ensures;
      none = no_action (naming_of c.args.names.now) l.rest.now c.cut-line.result.front.now c.cut-line.result.rest.now cut.whole
          cut.front cut.rest (none_of c.in_ok-action.field-0 _ _ c.in_default.is c.in_ok-action.ensures);
    }

pub returns-in_default-clause-reads : goal.returns-in_default-clause-reads
returns-in_default-clause-reads c = λ run is.
    absurd (no_bad_line (naming_of c.args.names.now) c.args.text.now run (c.loop-rest.number + 1) is
    (returns-in_default-clause-read c))

pub returns-clause-read : goal.returns-clause-read
returns-clause-read c =
    let l = c.loop-rest in
    record {
      lines = read_whole (naming_of c.args.names.now) c.args.text.now l.rest.now (map action_of l.actions.items)
          l.invariant.cut (eqb-true (length l.rest.now) 0 (sym c.loop-rest-test.ensures));
      readable = l.invariant.readable;
    }

pub returns-clause-reads : goal.returns-clause-reads
returns-clause-reads c = λ run is.
    let l = c.loop-rest in
    read_whole (naming_of c.args.names.now) c.args.text.now l.rest.now (map action_of l.actions.items)
    l.invariant.cut (eqb-true (length l.rest.now) 0 (sym c.loop-rest-test.ensures))
    ∙ sym is.lines

pub loop-rest-preserved : goal.loop-rest-preserved
loop-rest-preserved c =
    let l = c.loop-rest in
    let cut = c.cut-line.ensures in
    let names = naming_of c.args.names.now in
    let read = some_of c.in_ok-action.field-0 c.in-Some.action _ _ c.in-Some.is c.in_ok-action.ensures in
    let grows = pushed c.push.result c.is_err.result c.push.new.self.items l.actions.items c.in-Some.action
    c.is_err.ensures.value c.if-is_err.false c.push.ensures.items in
    let run = run_grows l.actions.items c.push.new.self.items c.in-Some.action grows in
    let many = ap length run in
    let sum = length-append (map action_of l.actions.items) (action_of c.in-Some.action ∷ []) in
    record {
      cut = line_more names c.args.text.now (map action_of l.actions.items) (map action_of c.push.new.self.items) l.rest.now
          c.cut-line.result.front.now c.cut-line.result.rest.now (action_of c.in-Some.action) l.invariant.cut cut.whole cut.rest
          (some_left (length c.cut-line.result.rest.now) c.if-is_empty.ensures) read.1 run
          ∙ ap (λ xs. run_lines names (map action_of c.push.new.self.items) ++ xs) (sym c.past_first-rest.ensures);
      readable = readable_more names (map action_of l.actions.items) (map action_of c.push.new.self.items)
          c.cut-line.result.front.now (action_of c.in-Some.action) l.invariant.readable read.0 cut.front read.1 run;
      number = omega (arith, l.invariant.number, many, sum);
      few =
          let less = line_shorter l.rest.now c.cut-line.result.front.now c.cut-line.result.rest.now cut.whole
          (some_left (length c.cut-line.result.rest.now) c.if-is_empty.ensures) in
          let left = ap length c.past_first-rest.ensures in
          omega (arith, l.invariant.few, less, left);
    }
