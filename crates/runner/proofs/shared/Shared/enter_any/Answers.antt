use Rattle.std.proofs.Common.{◌≡◌, [], ◌∷◌, length, length-append, sym, subst, ap, ◌∙◌, arith}
use Rattle.locals.specs.Looks.{look}
use Rattle.locals.specs.Requests.{next_step_of}
use Rattle.machine.specs.Views.{View}
use Rattle.piece_machine.specs.PieceViews.{parts}
use Rattle.runner.specs.Views.{PieceView, LogState, SharedView, log_state}
use Rattle.runner.specs.Entries.{IsFine, event_if}
use Rattle.runner.proofs.Growing.{entry, is_shared, keeps}
use Rattle.runner.proofs.shared.Shared.enter_any.Goals as goal

pub refusal-requires : goal.refusal-requires
refusal-requires g c =
    let same : c.machine.result.now.program ≡ g.J.RunName.program =
    ap (λ (w : View). w.program) c.machine.ensures.shows ∙ c.self.invariant.0.program in
    record {
      next = c.next_step_at-next.ensures ∙ (λ j. next_step_of (look (same j) c.args.t
          (ap (λ (x : PieceView). x.here) c.piece.view_is j)));
    }

pub enter-requires-clause-next : goal.enter-requires-clause-next
enter-requires-clause-next g c =
    c.next_step_at-next.ensures
    ∙ ap (λ (w : View). next_step_of (look w.program c.args.t c.piece.inside.here)) c.machine.ensures.shows

pub invariant_of-self-2 : goal.invariant_of-self-2
invariant_of-self-2 g c =
    let s = c.self.inside in
    let p = g.J.RunName.program in
    let limit = g.J.RunName.limit in
    let h : LogState = record { log = s.log.items; concrete = parts s.machine } in
    let i = c.piece.inside in
    let a : PieceView = record { thread = i.thread; origin = i.origin; here = i.here; count = i.count } in
    let fine : IsFine p limit h c.args.t a =
    subst (λ (x : PieceView). IsFine p limit h c.args.t x) (sym c.piece.view_is)
    (subst (λ (x : SharedView). IsFine p limit (log_state x) c.args.t c.args.piece.now)
    (sym c.self.view_is) c.in_default.ensures.none) in
    let event = event_if c.in-Ok.shared c.enter.new.event in
    let counted = c.self.invariant.1 in
    let grows = ap length c.in-Ok.ensures.log in (
      keeps p g.J.RunName.outside s.machine.view.program c.enter.new.machine.view.program limit h c.enter.new.log.items
          (parts c.enter.new.machine) a c.args.t s.left s.limit s.kills c.from.result event
          c.in-Ok.ensures.program c.self.invariant.0 c.piece.invariant.0 fine c.in-Ok.ensures.gives
          c.in-Ok.ensures.log (c.from.ensures ∙ is_shared c.in-Ok.shared c.enter.new.event),
      record {
        total = omega (
          arith,
          c.count_one.ensures.total,
          counted.total,
          grows,
          length-append s.log.items (entry c.args.t i.count event ∷ []),
        );
        whole = counted.whole;
        unused = counted.unused;
        parts = counted.parts;
      },
    )

pub returns-clause-legal : goal.returns-clause-legal
returns-clause-legal g c =
    let s = c.self.inside in
    let p = g.J.RunName.program in
    let limit = g.J.RunName.limit in
    let h : LogState = record { log = s.log.items; concrete = parts s.machine } in
    let i = c.piece.inside in
    let a : PieceView = record { thread = i.thread; origin = i.origin; here = i.here; count = i.count } in
    let fine : IsFine p limit h c.args.t a =
    subst (λ (x : PieceView). IsFine p limit h c.args.t x) (sym c.piece.view_is)
    (subst (λ (x : SharedView). IsFine p limit (log_state x) c.args.t c.args.piece.now)
    (sym c.self.view_is) c.in_default.ensures.none) in
    (keeps p g.J.RunName.outside s.machine.view.program c.enter.new.machine.view.program limit h c.enter.new.log.items
    (parts c.enter.new.machine) a c.args.t s.left s.limit s.kills c.from.result (event_if c.in-Ok.shared c.enter.new.event)
    c.in-Ok.ensures.program c.self.invariant.0 c.piece.invariant.0 fine c.in-Ok.ensures.gives
    c.in-Ok.ensures.log (c.from.ensures ∙ is_shared c.in-Ok.shared c.enter.new.event)).legal
