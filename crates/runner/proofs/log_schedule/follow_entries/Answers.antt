use Rattle.std.proofs.Common.{◌+◌, ◌∙◌, List, length, map, sym, inl, inr, arith, subst}
use Rattle.std.proofs.lemmas.Iterator.Consumers.{YieldsList-from_first, YieldsList-turn, YieldsList-end}
use Rattle.std.proofs.lemmas.List.{length_push, take_all}
use Rattle.machine.specs.declared.event.Entry.{Entry}
use Rattle.piece_machine.specs.PieceConcrete.{PieceConcrete}
use Rattle.piece_machine.specs.PieceViews.{parts}
use Rattle.runner.specs.Logs.{Enters}
use Rattle.runner.specs.LogSchedules.{CannotTake, FollowsLog, shape_of}
use Rattle.runner.proofs.Scheduling.{pushed}
use Rattle.runner.proofs.Turning.{bad_entry, shapes_more}
use Rattle.runner.proofs.log_schedule.follow_entries.Goals as goal

pub overflow_add-number : goal.overflow_add-number
overflow_add-number c =
    let l = c.loop-entry in
    let turn = YieldsList-turn (YieldsList-from_first (λ (x : Entry). x) (λ (rest : List Entry). rest) c.args.entries
    c.into_iter-entry-iterator.ensures.into_iter_gives)
    l.yielded _ l.yielded_by _ _ c.in-Some.entry c.in-Some.is c.next.ensures.steps in
    omega (arith, turn.0, c.len-count.ensures, l.invariant.number)

pub returns-then-steps-from-clause-err : goal.returns-then-steps-from-clause-err
returns-then-steps-from-clause-err c =
    let l = c.loop-entry in
    let entry = c.in-Some.entry in
    let turn = YieldsList-turn (YieldsList-from_first (λ (x : Entry). x) (λ (rest : List Entry). rest) c.args.entries
    c.into_iter-entry-iterator.ensures.into_iter_gives)
    l.yielded _ l.yielded_by _ _ entry c.in-Some.is c.next.ensures.steps in
    bad_entry c.args.machine.now.view.program l.machine.view.program c.args.entries (length l.yielded) (l.number + 1) entry entry l.log.items
    (parts l.machine) turn.0 (sym turn.1) (omega (arith, l.invariant.number)) l.invariant.program
    l.invariant.follows
    (inr (omega (arith, c.if-steps-from.true, c.from.ensures, l.invariant.steps, c.steps_of-steps.ensures.value)))

pub returns-in_default-clause-err : goal.returns-in_default-clause-err
returns-in_default-clause-err c =
    let l = c.loop-entry in
    let entry = c.in-Some.entry in
    let turn = YieldsList-turn (YieldsList-from_first (λ (x : Entry). x) (λ (rest : List Entry). rest) c.args.entries
    c.into_iter-entry-iterator.ensures.into_iter_gives)
    l.yielded _ l.yielded_by _ _ entry c.in-Some.is c.next.ensures.steps in
    let same = c.in_ok-make_room.ensures in
    let room = c.make_room.new.self in
    bad_entry c.args.machine.now.view.program room.view.program c.args.entries (length l.yielded) (l.number + 1) entry entry l.log.items
    (parts l.machine) turn.0 (sym turn.1) (omega (arith, l.invariant.number)) (same.same.0 ∙ l.invariant.program)
    l.invariant.follows
    (inl (subst (λ (k : PieceConcrete). CannotTake room.view.program k (shape_of entry)) same.parts c.in_default.ensures.none))

pub loop-entry-preserved : goal.loop-entry-preserved
loop-entry-preserved c =
    let l = c.loop-entry in
    let entry = c.in-Some.entry in
    let turn = YieldsList-turn (YieldsList-from_first (λ (x : Entry). x) (λ (rest : List Entry). rest) c.args.entries
    c.into_iter-entry-iterator.ensures.into_iter_gives)
    l.yielded _ l.yielded_by _ _ entry c.in-Some.is c.next.ensures.steps in
    let same = c.in_ok-make_room.ensures in
    let room = c.make_room.new.self in
    let taken = c.in-Some-take_turn.ensures.some in
    let value = c.steps_of-steps.ensures.value in
    let one = length_push l.yielded entry in
    let more = shapes_more c.args.machine.now.view.program room.view.program c.args.entries (length l.yielded) entry entry l.log.items
    c.push.new.self.items (parts l.machine) (parts c.take_turn.new.machine) c.in-Some-take_turn.taken turn.0
    (sym turn.1) (same.same.0 ∙ l.invariant.program) l.invariant.follows
    (subst (λ (k : PieceConcrete). Enters room.view.program k c.in-Some-take_turn.taken (parts c.take_turn.new.machine)) same.parts
    taken.0) taken.1
    (pushed c.push.result c.is_err.result c.push.new.self.items l.log.items c.in-Some-take_turn.taken
    c.is_err.ensures.value c.if-is_err.false c.push.ensures)
    (omega (arith, c.if-steps-from.false, c.from.ensures, l.invariant.steps, value)) in
    record {
      follows = rw one more.0;
      steps = omega (arith, more.1, l.invariant.steps, value);
      number = omega (arith, l.invariant.number, one);
      program = c.in-Some-take_turn.ensures.program ∙ same.same.0 ∙ l.invariant.program;
    }

pub returns-clause-ok : goal.returns-clause-ok
returns-clause-ok c =
    let l = c.loop-entry in
    let end = YieldsList-end (YieldsList-from_first (λ (x : Entry). x) (λ (rest : List Entry). rest) c.args.entries
    c.into_iter-entry-iterator.ensures.into_iter_gives)
    l.yielded _ l.yielded_by _ _ c.in-None.is c.next.ensures.steps in
    subst (λ (es : List Entry). FollowsLog c.args.machine.now.view.program (map shape_of es) l.log.items (parts l.machine))
    (take_all (length l.yielded) c.args.entries (omega (arith, end.1))) l.invariant.follows
