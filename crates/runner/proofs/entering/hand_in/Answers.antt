use Rattle.std.proofs.Common.{◌≡◌, true, None, Ok, Err, ap, ◌∙◌, sym, subst}
use Rattle.locals.specs.Looks.{look}
use Rattle.machine.specs.Accessing.{told_access}
use Rattle.machine.specs.ConcreteServing.{plain}
use Rattle.machine.specs.ConcreteSteps.{can_move}
use Rattle.machine.specs.declared.event.EventName.{EventName}
use Rattle.machine.specs.Views.{concrete}
use Rattle.piece_machine.specs.PieceConcrete.{piece_of}
use Rattle.piece_machine.specs.PieceViews.{PieceView as MachineView, parts}
use Rattle.runner.proofs.Handing.{not_refused, step_end, turn_end}
use Rattle.runner.proofs.Lives.{moves_there}
use Rattle.runner.proofs.Walking.{put_awake, put_made, put_next}
use Rattle.runner.proofs.entering.hand_in.Goals as goal

-- a thread that went on by local steps can move where they led it
pub access-requires : goal.access-requires
access-requires c =
    let m = c.args.machine.now in
    subst (λ (q : MachineView). can_move (concrete q.view) c.args.t ≡ true) (sym c.copy_local.ensures)
    (moves_there m.view.program (concrete m.view) c.args.t c.requires.goes.count c.requires.goes.origin c.args.here.now
    c.requires.thread c.requires.goes.stands c.requires.goes.goes)

pub returns-in-Some-clause-gives : goal.returns-in-Some-clause-gives
returns-in-Some-clause-gives c =
    let told : c.put.new.self ≡ told_access c.in-Some.access =
    c.put.ensures ∙ ap (λ (n : EventName). plain n c.in-Some.access.value) c.access_name.ensures in
    step_end c.args.machine.now.view.program (parts c.args.machine.now) c.args.t c.args.here.now
    (parts c.access.new.self) c.put.new.self
    (c.if-turn.ensures (look c.args.machine.now.view.program c.args.t c.args.here.now) c.requires.next)
    (subst (λ (m : MachineView). piece_of m.view.program (parts m) c.args.t ≡ Ok (parts c.access.new.self, c.put.new.self))
    c.copy_local.ensures
    (c.in-Some.ensures.made.0 ∙ (λ i. Ok (parts c.access.new.self, sym told i))))

-- where it makes no access, nothing has changed
pub step_as-requires-clause-thread : goal.step_as-requires-clause-thread
step_as-requires-clause-thread c =
    put_made c.args.machine.now c.access.new.self c.args.t c.requires.goes.origin c.args.here.now
    c.requires.goes.stands (c.in_default.ensures.made.0 ∙ c.copy_local.ensures)

pub step_as-requires-clause-awake : goal.step_as-requires-clause-awake
step_as-requires-clause-awake c =
    put_awake c.args.machine.now c.access.new.self c.args.t c.args.here.now c.requires.thread
    (c.in_default.ensures.made.0 ∙ c.copy_local.ensures)

pub step_as-requires-clause-next : goal.step_as-requires-clause-next
step_as-requires-clause-next c =
    λ x at. put_next c.args.machine.now c.access.new.self c.args.t c.requires.goes.origin c.args.here.now x c.args.next.now
    c.requires.goes.stands (c.in_default.ensures.made.0 ∙ c.copy_local.ensures) c.requires.next at

pub returns-clause-gives : goal.returns-clause-gives
returns-clause-gives c =
    step_end c.args.machine.now.view.program (parts c.args.machine.now) c.args.t c.args.here.now
    (parts c.step_as.new.self) c.step_as.new.event
    (c.if-turn.ensures (look c.args.machine.now.view.program c.args.t c.args.here.now) c.requires.next)
    (subst (λ (m : MachineView). piece_of m.view.program (parts m) c.args.t ≡ Ok (parts c.step_as.new.self, c.step_as.new.event))
    (c.in_default.ensures.made.0 ∙ c.copy_local.ensures) c.in-Ok.ensures.done)

pub returns-then-turn-clause-gives : goal.returns-then-turn-clause-gives
returns-then-turn-clause-gives c =
    turn_end c.args.machine.now.view.program (parts c.args.machine.now) c.args.t c.args.here.now
    (c.if-turn.ensures (look c.args.machine.now.view.program c.args.t c.args.here.now) c.requires.next)
    ∙ ap (λ (m : MachineView). Ok (parts m, None)) (sym c.copy_local.ensures)

pub unreachable-requires : goal.unreachable-requires
unreachable-requires c =
    not_refused c.args.machine.now.view.program (parts c.args.machine.now) c.args.t c.args.here.now c.in-Err.field-0
    c.requires.fine
    (c.if-turn.ensures (look c.args.machine.now.view.program c.args.t c.args.here.now) c.requires.next)
    (subst (λ (m : MachineView). piece_of m.view.program (parts m) c.args.t ≡ Err c.in-Err.field-0)
    (c.in_default.ensures.made.0 ∙ c.copy_local.ensures) c.in-Err.ensures.err.0)
