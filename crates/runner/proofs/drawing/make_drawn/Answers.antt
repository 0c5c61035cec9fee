use Rattle.std.proofs.Common.{◌≡◌, ◌∙◌, true, ap, refl, slice_set, sym, subst, arith}
use Rattle.machine.specs.ConcreteSteps.{can_move}
use Rattle.runner.specs.declared.drawing.Drawn.{Drawn}
use Rattle.runner.specs.declared.drawing.Drawn.TheVariants.{Living, Mover}
use Rattle.runner.specs.Rounds.{AllStopped, MayBeDrawn}
use Rattle.runner.specs.Seeds.{IsPassedOver, MakesDrawn, moment_of}
use Rattle.runner.specs.Views.{LogState, log_state}
use Rattle.runner.proofs.Drawn.{one_fewer, one_stopped}
use Rattle.runner.proofs.Passing.{kill_past, wake_past}
use Rattle.runner.proofs.Seeding.{marked_one, stops_so}
use Rattle.runner.proofs.drawing.make_drawn.Goals as goal

pub make_entry-requires-clause-thread : goal.make_entry-requires-clause-thread
make_entry-requires-clause-thread g c =
    let drawn : MayBeDrawn g.J.RunName.outside g.J.RunName.limit (log_state c.args.shared.now) c.args.refused.now
    c.args.passed.now (Mover c.in-Mover.t) =
    subst (λ (d : Drawn). MayBeDrawn g.J.RunName.outside g.J.RunName.limit (log_state c.args.shared.now)
    c.args.refused.now c.args.passed.now d) c.in-Mover.is c.requires.drawn in
    λ lifetimes within. (drawn.1, drawn.2)

pub returns-then-not-made-clause-none : goal.returns-then-not-made-clause-none
returns-then-not-made-clause-none g c =
    let p = g.J.RunName.program in
    let limit = g.J.RunName.limit in
    let t = c.in-Mover.t in
    let new = log_state c.make_entry.new.shared in
    let passed = c.args.passed.now in
    let drawn : MayBeDrawn g.J.RunName.outside limit (log_state c.args.shared.now) c.args.refused.now passed (Mover t) =
    subst (λ (d : Drawn). MayBeDrawn g.J.RunName.outside limit (log_state c.args.shared.now) c.args.refused.now passed d)
    c.in-Mover.is c.requires.drawn in
    λ is.
    let n = c.in_ok-made-in-Mover.ensures.none is in
    let moves : can_move new.concrete.concrete t ≡ true =
    ap (λ (h : LogState). can_move h.concrete.concrete t) n.0 ∙ drawn.0.0 in
    let stopped : AllStopped p limit new passed =
    subst (λ (h : LogState). AllStopped p limit h passed) (sym n.0) c.requires.stopped in
    let fewer = one_fewer passed t drawn.0.2 in
    (n.0, one_stopped p limit new t passed (n.1 moves) stopped, omega (arith, fewer))

pub returns-in_ok-stray-in-Sleeper-clause-past : goal.returns-in_ok-stray-in-Sleeper-clause-past
returns-in_ok-stray-in-Sleeper-clause-past g c =
    wake_past g.J.RunName.program g.J.RunName.limit (log_state c.args.shared.now) (log_state c.stray.new.self)
    c.in-Sleeper.t c.args.refused.now c.requires.kept c.in_ok-stray-in-Sleeper.ensures.ok c.requires.past

pub returns-in_ok-kill-in-Living-clause-past : goal.returns-in_ok-kill-in-Living-clause-past
returns-in_ok-kill-in-Living-clause-past g c =
    let drawn : MayBeDrawn g.J.RunName.outside g.J.RunName.limit (log_state c.args.shared.now) c.args.refused.now
    c.args.passed.now (Living c.in-Living.t) =
    subst (λ (d : Drawn). MayBeDrawn g.J.RunName.outside g.J.RunName.limit (log_state c.args.shared.now)
    c.args.refused.now c.args.passed.now d) c.in-Living.is c.requires.drawn in
    kill_past g.J.RunName.program g.J.RunName.limit (log_state c.args.shared.now) (log_state c.kill.new.self)
    c.in-Living.t c.args.refused.now c.requires.kept c.in_ok-kill-in-Living.ensures.ok drawn.1.1 c.requires.past

pub returns-then-not-made-clause-passes : goal.returns-then-not-made-clause-passes
returns-then-not-made-clause-passes g c =
    let p = g.J.RunName.program in
    let limit = g.J.RunName.limit in
    let t = c.in-Mover.t in
    let h = log_state c.args.shared.now in
    let refused = c.args.refused.now in
    let passed = c.args.passed.now in
    let drawn : MayBeDrawn g.J.RunName.outside limit h refused passed (Mover t) =
    subst (λ (d : Drawn). MayBeDrawn g.J.RunName.outside limit h refused passed d) c.in-Mover.is c.requires.drawn in
    λ is before after.
    let e = c.in_ok-made-in-Mover.ensures in
    let stops = stops_so p limit h t refused c.make_entry.new.refused (omega (arith, drawn.2))
    (e.marks is drawn.0.0 drawn.0.1) in
    subst (λ (d : Drawn). IsPassedOver p limit (moment_of h before refused passed) d
    (moment_of (log_state c.make_entry.new.shared) after c.make_entry.new.refused (slice_set passed t true))) (sym c.in-Mover.is)
    (stops, (e.none is).0, marked_one passed t (omega (arith, drawn.2)))

-- the entry that was drawn was made
pub returns-else-not-made-clause-makes : goal.returns-else-not-made-clause-makes
returns-else-not-made-clause-makes g c =
    let e = c.in_ok-made-in-Mover.ensures in
    λ is. (
      e.same is,
      subst (λ (d : Drawn). MakesDrawn g.J.RunName.program g.J.RunName.limit (log_state c.args.shared.now) d
          (log_state c.make_entry.new.shared)) (sym c.in-Mover.is) (e.entry is, (e.made is).1),
    )

pub returns-in_ok-stray-in-Sleeper-clause-makes : goal.returns-in_ok-stray-in-Sleeper-clause-makes
returns-in_ok-stray-in-Sleeper-clause-makes g c = λ is. (
  refl,
  subst (λ (d : Drawn). MakesDrawn g.J.RunName.program g.J.RunName.limit (log_state c.args.shared.now) d
      (log_state c.stray.new.self)) (sym c.in-Sleeper.is) c.in_ok-stray-in-Sleeper.ensures.ok,
)

pub returns-in_ok-kill-in-Living-clause-makes : goal.returns-in_ok-kill-in-Living-clause-makes
returns-in_ok-kill-in-Living-clause-makes g c = λ is. (
  refl,
  subst (λ (d : Drawn). MakesDrawn g.J.RunName.program g.J.RunName.limit (log_state c.args.shared.now) d
      (log_state c.kill.new.self)) (sym c.in-Living.is) c.in_ok-kill-in-Living.ensures.ok,
)
