-- The log has one entry more, which is the kill.
use Rattle.std.proofs.Common.{[], ◌∷◌, ◌+◌, ◌<◌, ◌≡◌, ◌∙◌, Some, length, length-append, ap, sym, subst, arith, inr, refl}
use Rattle.piece_machine.specs.PieceViews.{parts}
use Rattle.isa.specs.Programs.{Program}
use Rattle.piece_machine.specs.PieceConcrete.{kill_piece}
use Rattle.runner.specs.Entries.{TakesKill}
use Rattle.runner.specs.Logs.{cost, kills_in}
use Rattle.runner.specs.Views.{LogState, SharedView, log_state}
use Rattle.runner.proofs.Growing.{cost_more, entered, entry, keeps_outside}
use Rattle.runner.proofs.Owning.{one_kill, only_kill}
use Rattle.runner.proofs.shared.Shared.kill.Goals as goal

pub invariant_of-self-2 : goal.invariant_of-self-2
invariant_of-self-2 g c =
    let s = c.self.inside in
    let e = c.enter_kill in
    let counted = c.self.invariant.1 in
    let took = entered _ _ e.result c.is_err.result c.is_err.ensures.value c.if-is_err.false e.ensures.gives
    e.ensures.log in
    let fewer = subst (λ (x : SharedView). kills_in x.log < g.J.RunName.outside.kills) (sym c.self.view_is)
    c.requires.kills in
    let has = only_kill s.machine.view.program (parts s.machine) (parts e.new.machine) g.J.RunName.outside s.log.items e.new.log.items
    (entry c.args.t 0 (Some e.new.event)) e.new.event fewer refl took.1 took.2 c.self.invariant.0.own in
    let grows = ap length took.2 in (
      keeps_outside g.J.RunName.program g.J.RunName.outside s.machine.view.program e.new.machine.view.program g.J.RunName.limit
          (parts s.machine) (parts e.new.machine) s.log.items e.new.log.items c.args.t s.left s.limit s.kills
          (s.kills + 1) e.new.event c.self.invariant.0 e.ensures.program c.if-self-eq0.false (inr took.1) took.2
          (omega (arith, one_kill s.machine.view.program (parts s.machine) (parts e.new.machine) c.args.t e.new.event took.1)) has,
      record {
        total = omega (
          arith,
          c.count_one.ensures.total,
          counted.total,
          grows,
          length-append s.log.items (entry c.args.t 0 (Some e.new.event) ∷ []),
        );
        whole = counted.whole;
        unused = counted.unused;
        parts = counted.parts;
      },
    )

pub returns-clause-legal : goal.returns-clause-legal
returns-clause-legal g c =
    let s = c.self.inside in
    let e = c.enter_kill in
    let took = entered _ _ e.result c.is_err.result c.is_err.ensures.value c.if-is_err.false e.ensures.gives
    e.ensures.log in
    let fewer = subst (λ (x : SharedView). kills_in x.log < g.J.RunName.outside.kills) (sym c.self.view_is)
    c.requires.kills in
    let has = only_kill s.machine.view.program (parts s.machine) (parts e.new.machine) g.J.RunName.outside s.log.items e.new.log.items
    (entry c.args.t 0 (Some e.new.event)) e.new.event fewer refl took.1 took.2 c.self.invariant.0.own in
    (keeps_outside g.J.RunName.program g.J.RunName.outside s.machine.view.program e.new.machine.view.program g.J.RunName.limit
    (parts s.machine) (parts e.new.machine) s.log.items e.new.log.items c.args.t s.left s.limit s.kills
    (s.kills + 1) e.new.event c.self.invariant.0 e.ensures.program c.if-self-eq0.false (inr took.1) took.2
    (omega (arith, one_kill s.machine.view.program (parts s.machine) (parts e.new.machine) c.args.t e.new.event took.1)) has).legal

pub returns-clause-ok : goal.returns-clause-ok
returns-clause-ok g c =
    let s = c.self.inside in
    let e = c.enter_kill in
    let p = g.J.RunName.program in
    let limit = g.J.RunName.limit in
    let v = c.self.invariant.0 in
    let took = entered _ _ e.result c.is_err.result c.is_err.ensures.value c.if-is_err.false e.ensures.gives
    e.ensures.log in
    let new : LogState = record { log = e.new.log.items; concrete = parts e.new.machine } in
    let more : cost e.new.log.items ≡ cost s.log.items + 1 =
    ap cost took.2 ∙ cost_more s.log.items c.args.t 0 (Some e.new.event) in
    subst (λ (x : SharedView). TakesKill p limit (log_state x) c.args.t new) c.self.view_is (record {
      event = e.new.event;
      gives = ap (λ (q : Program). kill_piece q (parts s.machine) c.args.t) (sym v.program) ∙ took.1;
      log = took.2;
      within = omega (arith, more, v.counted, v.limit_is, c.if-self-eq0.false);
    })
