use Rattle.std.proofs.Common.{◌+◌, ◌++◌, ◌∙◌, [], ◌∷◌, ap, length, length-append, arith, sym}
use Rattle.std.proofs.lemmas.Bool.{eqb-true}
use Rattle.log_text.specs.LogLines.{log_lines}
use Rattle.log_text.proofs.Logs.{line_more, line_shorter, no_bad_line, no_end, no_entry, pushed, read_back, sized_more}
use Rattle.log_text.proofs.Logs.{some_left}
use Rattle.log_text.proofs.reading.read_log.Goals as goal

pub returns-then-is_empty-clause-read : goal.returns-then-is_empty-clause-read
returns-then-is_empty-clause-read c =
    let l = c.loop-rest in
    let cut = c.cut-line.ensures in
    record {
      before = l.entries.items;
      rest = l.rest.now;
      cut = l.invariant.cut;
      sized = l.invariant.sized;
      counted = omega (arith, l.invariant.number);
      more = some_left (length l.rest.now) c.loop-rest-test.ensures;
      none = no_end l.rest.now c.cut-line.result.front.now c.cut-line.result.rest.now cut.whole cut.front cut.rest
          (eqb-true (length c.cut-line.result.rest.now) 0 (sym c.if-is_empty.ensures));
    }

pub returns-then-is_empty-clause-reads : goal.returns-then-is_empty-clause-reads
returns-then-is_empty-clause-reads c = λ log is.
    absurd (no_bad_line c.args.text.now log (c.loop-rest.number + 1) is (returns-then-is_empty-clause-read c))

pub returns-in_default-clause-read : goal.returns-in_default-clause-read
returns-in_default-clause-read c =
    let l = c.loop-rest in
    let cut = c.cut-line.ensures in
    record {
      before = l.entries.items;
      rest = l.rest.now;
      cut = l.invariant.cut;
      sized = l.invariant.sized;
      counted = omega (arith, l.invariant.number);
      more = some_left (length l.rest.now) c.loop-rest-test.ensures;
      none = no_entry l.rest.now c.cut-line.result.front.now c.cut-line.result.rest.now cut.whole cut.front cut.rest
          c.in_default.ensures;
    }

pub returns-in_default-clause-reads : goal.returns-in_default-clause-reads
returns-in_default-clause-reads c = λ log is.
    absurd (no_bad_line c.args.text.now log (c.loop-rest.number + 1) is (returns-in_default-clause-read c))

pub returns-clause-reads : goal.returns-clause-reads
returns-clause-reads c = λ log is.
    let l = c.loop-rest in
    read_back c.args.text.now l.rest.now l.entries.items log l.invariant.cut
    (eqb-true (length l.rest.now) 0 (sym c.loop-rest-test.ensures)) l.invariant.sized is

pub loop-rest-preserved : goal.loop-rest-preserved
loop-rest-preserved c =
    let l = c.loop-rest in
    let cut = c.cut-line.ensures in
    let read = c.in-Some.ensures in
    let grows = pushed c.push.result c.is_err.result c.push.new.self.items l.entries.items c.in-Some.entry
    c.is_err.ensures.value c.if-is_err.false c.push.ensures in
    let many = ap length grows in
    let sum = length-append l.entries.items (c.in-Some.entry ∷ []) in
    record {
      cut = line_more c.args.text.now l.entries.items c.push.new.self.items l.rest.now c.cut-line.result.front.now
          c.cut-line.result.rest.now c.in-Some.entry l.invariant.cut cut.whole cut.rest
          (some_left (length c.cut-line.result.rest.now) c.if-is_empty.ensures) read.1 grows
          ∙ ap (λ xs. log_lines c.push.new.self.items ++ xs) (sym c.past_first-rest.ensures);
      sized = sized_more l.entries.items c.push.new.self.items c.in-Some.entry l.invariant.sized read.0 grows;
      number = omega (arith, l.invariant.number, many, sum);
      few =
          let less = line_shorter l.rest.now c.cut-line.result.front.now c.cut-line.result.rest.now cut.whole
          (some_left (length c.cut-line.result.rest.now) c.if-is_empty.ensures) in
          let left = ap length c.past_first-rest.ensures in
          omega (arith, l.invariant.few, less, left);
    }
