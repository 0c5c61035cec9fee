use Rattle.std.proofs.Common.{[], ◌∷◌, ◌++◌, List, ap, arith, length-append, length, sym}
use Rattle.isa.specs.declared.instr.Instr.{Instr}
use Rattle.assembler.proofs.Lines.{all_read, next_left, not_empty, some_next, too_many}
use Rattle.assembler.proofs.listing.listed_code.Goals as goal

pub lines-init : goal.lines-init
lines-init c =
    let none = c.new-code.ensures.items in
    record {
      place = ap length (sym none);
      left = λ cs all is. (cs, ap (λ (z : List Instr). z ++ cs) (sym none), is);
    }

pub returns-then-place-gt-LAST_PLACE : goal.returns-then-place-gt-LAST_PLACE
returns-then-place-gt-LAST_PLACE c = λ cs all few is.
    let l = c.lines in
    let m = l.invariant.left cs all is in
    too_many l.place l.rest.now cs l.code.items m.0 l.invariant.place m.1 m.2
    (not_empty l.rest.now c.lines-test.ensures) few (omega arith)

pub returns-in_default : goal.returns-in_default
returns-in_default c = λ cs all few is.
    let l = c.lines in
    let m = l.invariant.left cs all is in
    some_next l.place l.rest.now cs l.code.items m.0 all m.1 m.2 (not_empty l.rest.now c.lines-test.ensures)
    c.in_default.ensures.reads

pub lines-preserved : goal.lines-preserved
lines-preserved c =
    let l = c.lines in
    let grown = c.in_ok-push.ensures.items in
    let many = ap length grown in
    let sum = length-append l.code.items (c.in-Some.instr ∷ []) in
    record {
      place = omega (arith, many, sum, l.invariant.place);
      left = λ cs all is.
          let m = l.invariant.left cs all is in
          next_left l.place l.rest.now c.in-Some.behind.now cs l.code.items _ m.0 c.in-Some.instr all m.1 m.2
          (not_empty l.rest.now c.lines-test.ensures) grown c.in-Some.ensures.reads;
    }

pub returns : goal.returns
returns c = λ cs all few is.
    let l = c.lines in
    let m = l.invariant.left cs all is in
    all_read l.place l.rest.now cs l.code.items m.0 c.lines-test.ensures m.1 m.2
