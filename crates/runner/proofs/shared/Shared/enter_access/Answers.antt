-- The log has one entry more, which is an access.
use Rattle.std.proofs.Common.{◌≡◌, ◌+◌, ◌≤◌, [], ◌∷◌, length, length-append, true, Some, ap, sym, subst, arith}
use Rattle.machine.specs.ConcreteSteps.{can_move}
use Rattle.piece_machine.specs.PieceViews.{parts}
use Rattle.runner.specs.Entries.{Stands}
use Rattle.runner.specs.Logs.{cost}
use Rattle.runner.specs.Views.{PieceView, LogState, SharedView, log_state}
use Rattle.runner.proofs.Growing.{entry, keeps_access}
use Rattle.runner.proofs.shared.Shared.enter_access.Goals as goal

pub invariant_of-self-2 : goal.invariant_of-self-2
invariant_of-self-2 g c =
    let s = c.self.inside in
    let p = g.J.RunName.program in
    let limit = g.J.RunName.limit in
    let h : LogState = record { log = s.log.items; concrete = parts s.machine } in
    let i = c.piece.inside in
    let a : PieceView = record { thread = i.thread; origin = i.origin; here = i.here; count = i.count } in
    let m = c.make_room in
    let e = c.enter_access in
    let Fine : PieceView → SharedView → Type 0 = λ x y. Stands (log_state y) c.args.t x
    × (can_move (log_state y).concrete.concrete c.args.t ≡ true) × (cost y.log + (x.count + 1) ≤ limit) in
    let fine : Fine a (record { log = s.log.items; room = s.log.room; machine = s.machine; given = s.given }) =
    subst (λ (x : PieceView). Fine x (record { log = s.log.items; room = s.log.room; machine = s.machine; given = s.given })) (sym c.piece.view_is)
    (subst (λ (y : SharedView). Fine c.args.piece.now y) (sym c.self.view_is) (c.if-not-may_access.ensures.fine (λ i. true))) in
    let counted = c.self.invariant.1 in
    let grows = ap length e.ensures.enters.grows in (
      keeps_access p g.J.RunName.outside s.machine.view.program m.new.machine.view.program e.new.machine.view.program limit h
          (parts m.new.machine) m.new.log.items e.new.log.items (parts e.new.machine) a c.args.t s.left s.limit s.kills
          m.ensures.program m.ensures.same.0 m.ensures.same.1 e.ensures.program c.self.invariant.0 c.piece.invariant.0
          fine.0 fine.1 fine.2 e.ensures.enters,
      record {
        total = omega (
          arith,
          c.count_one.ensures.total,
          counted.total,
          grows,
          ap length m.ensures.same.1,
          length-append m.new.log.items (entry c.args.t i.count (Some e.ensures.enters.event) ∷ []),
        );
        whole = counted.whole;
        unused = counted.unused;
        parts = counted.parts;
      },
    )

pub returns-clause-legal : goal.returns-clause-legal
returns-clause-legal g c = (invariant_of-self-2 g c).0.legal
