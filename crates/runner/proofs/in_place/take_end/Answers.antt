-- Room for a number changes nothing else.
use Rattle.std.proofs.Common.{◌≡◌, Err, true, sym, subst}
use Rattle.std.proofs.lemmas.Result.{on_ok_weaker}
use Rattle.isa.specs.Programs.{Program}
use Rattle.machine.specs.ConcreteSteps.{can_move}
use Rattle.machine.specs.declared.event.StepFault.TheVariants.{CannotMove}
use Rattle.piece_machine.specs.PieceConcrete.{PieceConcrete}
use Rattle.piece_machine.specs.PieceViews.{parts}
use Rattle.runner.specs.Entries.{entry_end, taken_entry, taken_event}
use Rattle.runner.specs.Logs.{EntersOwn}
use Rattle.runner.specs.Reports.{IsNextEntry}
use Rattle.runner.proofs.Walking.{fails_so, if_err, walk_enters, walked_at}
use Rattle.runner.proofs.in_place.take_end.Goals as goal

pub returns-then-is_err-clause-enters : goal.returns-then-is_err-clause-enters
returns-then-is_err-clause-enters c =
    let m = c.args.machine.now in
    λ k w. walk_enters m.view.program k (parts m) (parts c.make_room.new.self) c.args.t c.args.local w
    c.make_room.ensures.parts

pub end_with_room-requires-clause-moves : goal.end_with_room-requires-clause-moves
end_with_room-requires-clause-moves c =
    subst (λ (k : PieceConcrete). can_move k.concrete c.args.t ≡ true) (sym c.make_room.ensures.parts) c.requires.moves

pub returns-clause-enters : goal.returns-clause-enters
returns-clause-enters c =
    let m = c.args.machine.now in
    let n = c.make_room.new.self in
    let e = c.end_with_room in
    let same = c.make_room.ensures.same.0 in
    λ k w. subst (λ (q : Program). EntersOwn q k (taken_entry c.args.t e.result.0 e.new.event) (parts e.new.machine)) same
    (e.ensures.enters k (walked_at m.view.program n.view.program k (parts m) (parts n) c.args.t c.args.local same
    c.make_room.ensures.parts w))

pub returns-clause-next : goal.returns-clause-next
returns-clause-next c =
    let m = c.args.machine.now in
    let n = c.make_room.new.self in
    let e = c.end_with_room in
    let same = c.make_room.ensures.same.0 in
    λ k w. on_ok_weaker e.result.1
    (subst (λ (q : Program). IsNextEntry q k c.args.t e.result.0.local (taken_event e.result.0.behind e.new.event)) same)
    (e.ensures.next k (walked_at m.view.program n.view.program k (parts m) (parts n) c.args.t c.args.local same
    c.make_room.ensures.parts w))

pub returns-clause-fails : goal.returns-clause-fails
returns-clause-fails c =
    let m = c.args.machine.now in
    let n = c.make_room.new.self in
    let e = c.end_with_room in
    let same = c.make_room.ensures.same.0 in
    if_err _ _ e.result.1
    (λ fault h k w free. fails_so m.view.program n.view.program k c.args.t e.result.0.local c.args.local fault same
    e.ensures.count (h k (walked_at m.view.program n.view.program k (parts m) (parts n) c.args.t c.args.local same
    c.make_room.ensures.parts w) (λ waits. free (subst (λ (q : Program). entry_end q k c.args.t w.here ≡ Err CannotMove)
    same waits)))) e.ensures.breaks
