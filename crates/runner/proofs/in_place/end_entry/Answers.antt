-- Behind its local steps the thread stands before another one, or its turn is over.
use Rattle.std.proofs.Common.{ap, refl, sym}
use Rattle.locals.specs.Looks.{look}
use Rattle.piece_machine.specs.PieceViews.{PieceView as MachineView, parts}
use Rattle.runner.proofs.Walking.{step_enters, step_next, walk_breaks, walk_enters, walk_next, walked_there}
use Rattle.runner.proofs.in_place.end_entry.Goals as goal

pub returns-then-is_local-clause-enters : goal.returns-then-is_local-clause-enters
returns-then-is_local-clause-enters c =
    let m = c.args.machine.now in
    λ k w. walk_enters m.view.program k (parts m) (parts m) c.args.t c.args.local w refl

pub returns-then-is_local-clause-next : goal.returns-then-is_local-clause-next
returns-then-is_local-clause-next c =
    let m = c.args.machine.now in
    let p = m.view.program in
    λ k w. walk_next p k (parts m) c.args.t c.args.local w
    (sym (c.if-is_local.ensures (look p c.args.t w.here)
    (c.requires.next w.here (walked_there p k (parts m) c.args.t c.args.local w))))

pub returns-in-Ok-clause-enters : goal.returns-in-Ok-clause-enters
returns-in-Ok-clause-enters c =
    let m = c.args.machine.now in
    let p = m.view.program in
    λ k w. step_enters p k (parts m) (parts c.step_as.new.self) c.args.t c.args.local c.step_as.new.event w
    (sym (c.if-is_local.ensures (look p c.args.t w.here)
    (c.requires.next w.here (walked_there p k (parts m) c.args.t c.args.local w))))
    c.in-Ok.ensures.done

pub returns-in-Ok-clause-next : goal.returns-in-Ok-clause-next
returns-in-Ok-clause-next c =
    let m = c.args.machine.now in
    let p = m.view.program in
    λ k w. step_next p k (parts m) (parts c.step_as.new.self) c.args.t c.args.local c.step_as.new.event w
    (sym (c.if-is_local.ensures (look p c.args.t w.here)
    (c.requires.next w.here (walked_there p k (parts m) c.args.t c.args.local w))))
    c.in-Ok.ensures.done

pub returns-in-Err-clause-enters : goal.returns-in-Err-clause-enters
returns-in-Err-clause-enters c =
    let m = c.args.machine.now in
    λ k w. walk_enters m.view.program k (parts m) (parts c.step_as.new.self) c.args.t c.args.local w
    (ap (λ (v : MachineView). parts v) c.in-Err.ensures.err.1)

pub returns-in-Err-clause-breaks : goal.returns-in-Err-clause-breaks
returns-in-Err-clause-breaks c =
    let m = c.args.machine.now in
    let p = m.view.program in
    λ k w free. (
      refl,
      walk_breaks p k (parts m) c.args.t c.args.local c.in-Err.field-0 w
          (sym (c.if-is_local.ensures (look p c.args.t w.here)
          (c.requires.next w.here (walked_there p k (parts m) c.args.t c.args.local w))))
          c.in-Err.ensures.err.0 free,
    )
