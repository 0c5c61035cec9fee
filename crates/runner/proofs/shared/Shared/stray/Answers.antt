-- The log has one entry more, which is the wake.
use Rattle.std.proofs.Common.{[], ◌∷◌, Some, length, length-append, ap, arith, inl, refl}
use Rattle.piece_machine.specs.PieceViews.{parts}
use Rattle.runner.proofs.Growing.{entered, entry, keeps_outside}
use Rattle.runner.proofs.Owning.{only_stray, stray_kills}
use Rattle.runner.proofs.shared.Shared.stray.Goals as goal

pub invariant_of-self-2 : goal.invariant_of-self-2
invariant_of-self-2 g c =
    let s = c.self.inside in
    let e = c.enter_outside in
    let counted = c.self.invariant.1 in
    let took = entered _ _ e.result c.is_err.result c.is_err.ensures.value c.if-is_err.false e.ensures.gives
    e.ensures.log in
    let has = only_stray (parts s.machine) (parts e.new.machine) g.J.RunName.outside s.log.items e.new.log.items
    (entry c.args.t 0 (Some e.new.event)) e.new.event c.requires.strays refl took.1 took.2 c.self.invariant.0.own in
    let grows = ap length took.2 in (
      keeps_outside g.J.RunName.program g.J.RunName.outside s.machine.view.program e.new.machine.view.program g.J.RunName.limit
          (parts s.machine) (parts e.new.machine) s.log.items e.new.log.items c.args.t s.left s.limit s.kills
          s.kills e.new.event c.self.invariant.0 e.ensures.program c.if-self-eq0.false (inl took.1) took.2
          (omega (arith, stray_kills (parts s.machine) (parts e.new.machine) c.args.t e.new.event took.1)) has,
      record {
        total = omega (
          arith,
          c.count_one.ensures.total,
          counted.total,
          grows,
          length-append s.log.items (entry c.args.t 0 (Some e.new.event) ∷ []),
        );
        whole = counted.whole;
        unused = counted.unused;
        parts = counted.parts;
      },
    )

pub returns-clause-legal : goal.returns-clause-legal
returns-clause-legal g c =
    let s = c.self.inside in
    let e = c.enter_outside in
    let took = entered _ _ e.result c.is_err.result c.is_err.ensures.value c.if-is_err.false e.ensures.gives
    e.ensures.log in
    let has = only_stray (parts s.machine) (parts e.new.machine) g.J.RunName.outside s.log.items e.new.log.items
    (entry c.args.t 0 (Some e.new.event)) e.new.event c.requires.strays refl took.1 took.2 c.self.invariant.0.own in
    (keeps_outside g.J.RunName.program g.J.RunName.outside s.machine.view.program e.new.machine.view.program g.J.RunName.limit
    (parts s.machine) (parts e.new.machine) s.log.items e.new.log.items c.args.t s.left s.limit s.kills
    s.kills e.new.event c.self.invariant.0 e.ensures.program c.if-self-eq0.false (inl took.1) took.2
    (omega (arith, stray_kills (parts s.machine) (parts e.new.machine) c.args.t e.new.event took.1)) has).legal
