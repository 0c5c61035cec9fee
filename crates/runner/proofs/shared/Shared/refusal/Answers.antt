use Rattle.std.proofs.Common.{◌≡◌, ◌∙◌, true, ap, inr, sym, subst}
use Rattle.locals.specs.Looks.{look}
use Rattle.locals.specs.Requests.{next_step_of}
use Rattle.machine.specs.declared.event.StepFault.TheVariants as step
use Rattle.machine.specs.ConcreteSteps.{can_move}
use Rattle.piece_machine.specs.PieceViews.{parts}
use Rattle.runner.specs.declared.fault.RunFault.TheVariants.{Broken, CannotMove, Limit}
use Rattle.runner.specs.Views.{PieceView, LogState, SharedView, log_state}
use Rattle.runner.specs.Entries.{RefusesEntry, IsFine, Stands}
use Rattle.runner.proofs.Handing.{goes_to, in_limit, past_limit, refused_with}
use Rattle.runner.proofs.shared.Shared.refusal.Goals as goal

pub returns-then-self-count-clause-some : goal.returns-then-self-count-clause-some
returns-then-self-count-clause-some g c =
    let s = c.self.inside in
    let p = g.J.RunName.program in
    let limit = g.J.RunName.limit in
    let v = c.self.invariant.0 in
    let h : LogState = record { log = s.log.items; concrete = parts s.machine } in
    let i = c.piece.inside in
    let a : PieceView = record { thread = i.thread; origin = i.origin; here = i.here; count = i.count } in
    let stands : Stands h c.args.t a =
    subst (λ (x : PieceView). Stands h c.args.t x) (sym c.piece.view_is)
    (subst (λ (x : SharedView). Stands (log_state x) c.args.t c.args.piece.now)
    (sym c.self.view_is) c.if-not-stands.ensures) in
    let moves : can_move h.concrete.concrete c.args.t ≡ true = cc in
    let there = goes_to p s.machine.view c.args.t a c.self.invariant.0.program stands c.piece.invariant.0 in
    let is : c.args.next ≡ next_step_of (look s.machine.view.program c.args.t i.here) =
    c.requires.next ∙ (λ j. next_step_of (look (sym c.self.invariant.0.program j) c.args.t
    (sym (ap (λ (x : PieceView). x.here) c.piece.view_is) j))) in
    subst (λ (x : SharedView). RefusesEntry p limit (log_state x) c.args.t c.args.piece.now Limit) c.self.view_is
    (subst (λ (x : PieceView). RefusesEntry p limit h c.args.t x Limit) c.piece.view_is
    (past_limit p s.machine.view.program limit h a c.args.t s.left s.limit c.from.result
    c.is_local-shared.result v.program stands moves (c.in-None.ensures i.here there is)
    (c.is_local-shared.ensures (look s.machine.view.program c.args.t i.here) is)
    c.from.ensures v.counted v.limit_is c.if-self-count.true))

pub returns-clause-none : goal.returns-clause-none
returns-clause-none g c =
    let s = c.self.inside in
    let p = g.J.RunName.program in
    let limit = g.J.RunName.limit in
    let v = c.self.invariant.0 in
    let h : LogState = record { log = s.log.items; concrete = parts s.machine } in
    let i = c.piece.inside in
    let a : PieceView = record { thread = i.thread; origin = i.origin; here = i.here; count = i.count } in
    let stands : Stands h c.args.t a =
    subst (λ (x : PieceView). Stands h c.args.t x) (sym c.piece.view_is)
    (subst (λ (x : SharedView). Stands (log_state x) c.args.t c.args.piece.now)
    (sym c.self.view_is) c.if-not-stands.ensures) in
    let moves : can_move h.concrete.concrete c.args.t ≡ true = cc in
    let there = goes_to p s.machine.view c.args.t a c.self.invariant.0.program stands c.piece.invariant.0 in
    let is : c.args.next ≡ next_step_of (look s.machine.view.program c.args.t i.here) =
    c.requires.next ∙ (λ j. next_step_of (look (sym c.self.invariant.0.program j) c.args.t
    (sym (ap (λ (x : PieceView). x.here) c.piece.view_is) j))) in
    subst (λ (x : SharedView). IsFine p limit (log_state x) c.args.t c.args.piece.now) c.self.view_is
    (subst (λ (x : PieceView). IsFine p limit h c.args.t x) c.piece.view_is
    (in_limit p s.machine.view.program limit h a c.args.t s.left s.limit c.from.result
    c.is_local-shared.result v.program stands moves (c.in-None.ensures i.here there is)
    (c.is_local-shared.ensures (look s.machine.view.program c.args.t i.here) is)
    c.from.ensures v.counted v.limit_is c.if-self-count.false))

pub returns-in-Some-CannotMove-clause-some : goal.returns-in-Some-CannotMove-clause-some
returns-in-Some-CannotMove-clause-some g c =
    let s = c.self.inside in
    let p = g.J.RunName.program in
    let limit = g.J.RunName.limit in
    let h : LogState = record { log = s.log.items; concrete = parts s.machine } in
    let i = c.piece.inside in
    let a : PieceView = record { thread = i.thread; origin = i.origin; here = i.here; count = i.count } in
    let stands : Stands h c.args.t a =
    subst (λ (x : PieceView). Stands h c.args.t x) (sym c.piece.view_is)
    (subst (λ (x : SharedView). Stands (log_state x) c.args.t c.args.piece.now)
    (sym c.self.view_is) c.if-not-stands.ensures) in
    let moves : can_move h.concrete.concrete c.args.t ≡ true = cc in
    let there = goes_to p s.machine.view c.args.t a c.self.invariant.0.program stands c.piece.invariant.0 in
    let is : c.args.next ≡ next_step_of (look s.machine.view.program c.args.t i.here) =
    c.requires.next ∙ (λ j. next_step_of (look (sym c.self.invariant.0.program j) c.args.t
    (sym (ap (λ (x : PieceView). x.here) c.piece.view_is) j))) in
    let gives = refused_with p s.machine.view.program h c.args.t a step.CannotMove c.self.invariant.0.program stands moves
    (rw c.in-Some-CannotMove.field-0-is at (c.in-Some-CannotMove.ensures i.here there is)) in
    subst (λ (x : SharedView). RefusesEntry p limit (log_state x) c.args.t c.args.piece.now CannotMove) c.self.view_is
    (subst (λ (x : PieceView). RefusesEntry p limit h c.args.t x CannotMove) c.piece.view_is
    (stands, inr gives))

pub returns-in-Some-Broken-clause-some : goal.returns-in-Some-Broken-clause-some
returns-in-Some-Broken-clause-some g c =
    let s = c.self.inside in
    let p = g.J.RunName.program in
    let limit = g.J.RunName.limit in
    let h : LogState = record { log = s.log.items; concrete = parts s.machine } in
    let i = c.piece.inside in
    let a : PieceView = record { thread = i.thread; origin = i.origin; here = i.here; count = i.count } in
    let stands : Stands h c.args.t a =
    subst (λ (x : PieceView). Stands h c.args.t x) (sym c.piece.view_is)
    (subst (λ (x : SharedView). Stands (log_state x) c.args.t c.args.piece.now)
    (sym c.self.view_is) c.if-not-stands.ensures) in
    let moves : can_move h.concrete.concrete c.args.t ≡ true = cc in
    let there = goes_to p s.machine.view c.args.t a c.self.invariant.0.program stands c.piece.invariant.0 in
    let is : c.args.next ≡ next_step_of (look s.machine.view.program c.args.t i.here) =
    c.requires.next ∙ (λ j. next_step_of (look (sym c.self.invariant.0.program j) c.args.t
    (sym (ap (λ (x : PieceView). x.here) c.piece.view_is) j))) in
    let gives = refused_with p s.machine.view.program h c.args.t a step.Broken c.self.invariant.0.program stands moves
    (rw c.in-Some-Broken.field-0-is at (c.in-Some-Broken.ensures i.here there is)) in
    subst (λ (x : SharedView). RefusesEntry p limit (log_state x) c.args.t c.args.piece.now Broken) c.self.view_is
    (subst (λ (x : PieceView). RefusesEntry p limit h c.args.t x Broken) c.piece.view_is
    (stands, moves, gives))
