-- The log leads on from each entry that is taken, and stops at the first that can't be, or that is one too many.
use Rattle.std.proofs.Common.{rules, ◌+◌, ◌∷◌, [], ◌∙◌, sym, arith, length-append, subst}
use Rattle.isa.specs.Programs.{Program as Image}
use Rattle.piece_machine.specs.PieceViews.{parts}
use Rattle.runner.specs.LogRuns.{steps_of}
use Rattle.runner.specs.Logs.{Enters}
use Rattle.lowering.specs.Pieces.{code_of}
use Rattle.log_simulation.specs.Recording.{IsAlong, IsWhole}
use Rattle.log_simulation.proofs.Records.{when_false, when_true}
use Rattle.log_simulation.proofs.Stopping.{inside, leads_next, read_all, read_next, steps_next, stops_illegal, stops_long}
use Rattle.log_simulation.proofs.Stopping.{whole_first}
use Rattle.log_simulation.proofs.walking.walk.Goals as goal

pub loop-entry-init : goal.loop-entry-init
loop-entry-init c = record {
  program = c.in_ok-machine.ensures.program;
  number = search rules;
  recorded = λ p w own begins. record {
    legal = search rules;
    along = search rules;
    whole = whole_first p _ _ begins;
  };
}

pub overflow_add-number : goal.overflow_add-number
overflow_add-number c =
    let l = c.loop-entry in
    let next = c.in-Some.entry in
    let starts = c.into_iter-entry-iterator.ensures.into_iter_gives in
    let read = read_next c.args.log _ l.yielded l.entry-iterator c.next.new.self next starts l.yielded_by
    c.in-Some.ensures.steps in
    let less = inside c.args.log l.yielded c.next.new.self next read in
    omega (arith, less, l.invariant.number, c.log_is_counted.ensures)

pub returns-then-not-branch : goal.returns-then-not-branch
returns-then-not-branch c = λ p w own begins.
    let l = c.loop-entry in
    let next = c.in-Some.entry in
    let starts = c.into_iter-entry-iterator.ensures.into_iter_gives in
    let read = read_next c.args.log _ l.yielded l.entry-iterator c.next.new.self next starts l.yielded_by
    c.in-Some.ensures.steps in
    let never = when_false _ _ c.in_ok-go_through.field-0 c.in_ok-go_through.ensures.enters c.if-not-branch.true in
    stops_illegal p c.args.log l.yielded c.next.new.self next read (l.number + 1) (omega (arith, l.invariant.number))
    (parts l.machine) l.recorder (l.invariant.recorded p w own begins)
    (λ new enters. never new (subst (λ (i : Image). Enters i (parts l.machine) next new) (sym own) enters))

pub returns-then-not-is_whole : goal.returns-then-not-is_whole
returns-then-not-is_whole c = λ p w own begins.
    let l = c.loop-entry in
    let next = c.in-Some.entry in
    let starts = c.into_iter-entry-iterator.ensures.into_iter_gives in
    let read = read_next c.args.log _ l.yielded l.entry-iterator c.next.new.self next starts l.yielded_by
    c.in-Some.ensures.steps in
    let new = parts c.go_through.new.machine in
    let recorder = c.go_through.new.recorder in
    let before = l.invariant.recorded p w own begins in
    let enters = subst (λ (i : Image). Enters i (parts l.machine) next new) own
    (when_true _ _ c.in_ok-go_through.field-0 c.in_ok-go_through.ensures.enters c.if-not-branch.false) in
    let along = c.in_ok-go_through.ensures.told c.if-not-branch.false p own w (steps_of l.yielded) before.along in
    stops_long p c.args.log l.yielded c.next.new.self next read (l.number + 1) (omega (arith, l.invariant.number))
    (parts l.machine) l.recorder before new enters
    (when_false _ _ recorder.is_whole along.told (sym c.is_whole.ensures ∙ c.if-not-is_whole.true))

pub loop-entry-preserved : goal.loop-entry-preserved
loop-entry-preserved c =
    let l = c.loop-entry in
    let next = c.in-Some.entry in
    let new = parts c.go_through.new.machine in
    let recorder = c.go_through.new.recorder in
    let sum = length-append l.yielded (next ∷ []) in
    record {
      program = c.in_ok-go_through.ensures.program;
      number = omega (arith, l.invariant.number, sum);
      recorded = λ p w own begins.
          let before = l.invariant.recorded p w own begins in
          let enters = subst (λ (i : Image). Enters i (parts l.machine) next new) own
          (when_true _ _ c.in_ok-go_through.field-0 c.in_ok-go_through.ensures.enters c.if-not-branch.false) in
          let along = c.in_ok-go_through.ensures.told c.if-not-branch.false p own w (steps_of l.yielded) before.along in
          record {
            legal = leads_next l.yielded next (code_of p) (parts l.machine) before.legal new enters;
            along = subst (λ es. IsAlong p es new recorder) (sym (steps_next l.yielded next)) along;
            whole = sym c.is_whole.ensures ∙ c.if-not-is_whole.false;
          };
    }

pub returns : goal.returns
returns c = λ p w own begins.
    let l = c.loop-entry in
    let starts = c.into_iter-entry-iterator.ensures.into_iter_gives in
    let all = read_all c.args.log _ l.yielded l.entry-iterator starts l.yielded_by c.in-None.ensures.steps.0 in (
      subst (λ es. IsWhole p es (parts l.machine) l.recorder) all (l.invariant.recorded p w own begins),
      l.invariant.program ∙ own,
    )
