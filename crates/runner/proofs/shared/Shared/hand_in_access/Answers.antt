-- The log has one entry more, which is an access.
use Rattle.std.proofs.Common.{◌≡◌, ◌+◌, ◌≤◌, ℕ, [], ◌∷◌, ◌++◌, length, length-append, refl, true, Some, ap, sym, subst, ◌∙◌, arith}
use Rattle.machine.specs.Accessing.{told_access}
use Rattle.machine.specs.ConcreteServing.{plain}
use Rattle.machine.specs.ConcreteSteps.{can_move}
use Rattle.piece_machine.specs.PieceViews.{DoneFrom, parts}
use Rattle.runner.specs.Entries.{EntersAccess, Stands, TellsAccess}
use Rattle.runner.specs.Logs.{cost}
use Rattle.runner.specs.Views.{PieceView, LogState, SharedView, log_state}
use Rattle.runner.proofs.Growing.{entry, keeps_access}
use Rattle.runner.proofs.Handing.{step_end}
use Rattle.runner.proofs.shared.Shared.hand_in_access.Goals as goal

pub invariant_of-self-2 : goal.invariant_of-self-2
invariant_of-self-2 g c =
    let s = c.self.inside in
    let p = g.J.RunName.program in
    let limit = g.J.RunName.limit in
    let t = c.args.t in
    let h : LogState = record { log = s.log.items; concrete = parts s.machine } in
    let i = c.piece.inside in
    let a : PieceView = record { thread = i.thread; origin = i.origin; here = i.here; count = i.count } in
    let new = c.access.new.machine in
    let told = c.in-Some.access in
    let Fine : PieceView → SharedView → Type 0 = λ x y. Stands (log_state y) t x
    × (can_move (log_state y).concrete.concrete t ≡ true) × (cost y.log + (x.count + 1) ≤ limit) in
    let old : SharedView = record { log = s.log.items; room = s.log.room; machine = s.machine; given = s.given } in
    let fine : Fine a old = subst (λ (x : PieceView). Fine x old) (sym c.piece.view_is)
    (subst (λ (y : SharedView). Fine c.args.piece.now y) (sym c.self.view_is) (c.if-not-is_fine.ensures.fine (λ i. true))) in
    let done = subst (λ (u : ℕ). DoneFrom told s.machine u a.here new c.access.new.self.here) fine.0.0
    (subst (λ (x : PieceView). DoneFrom told s.machine x.thread x.here new c.access.new.self.here) (sym c.piece.view_is)
    c.in-Some.ensures.made.0) in
    let grows = c.push_plain.ensures.entries
    ∙ ap (λ n. s.log.items ++ entry t a.count (Some (plain n told.value)) ∷ []) c.access_name.ensures in
    let enters : EntersAccess s.machine.view.program (parts s.machine) t a.here a.count s.log.items (parts new)
    c.push_plain.new.self.items = record {
      event = told_access told;
      gives = step_end s.machine.view.program (parts s.machine) t a.here (parts new) (told_access told)
          (sym done.shared) done.gives;
      grows = grows;
    } in
    let counted = c.self.invariant.1 in (
      keeps_access p g.J.RunName.outside s.machine.view.program s.machine.view.program new.view.program limit h
          (parts s.machine) s.log.items c.push_plain.new.self.items (parts new) a t s.left s.limit s.kills
          refl refl refl c.access.ensures.program c.self.invariant.0 c.piece.invariant.0
          fine.0 fine.1 fine.2 enters,
      record {
        total = omega (
          arith,
          c.count_one.ensures.total,
          counted.total,
          ap length grows,
          length-append s.log.items (entry t a.count (Some (told_access told)) ∷ []),
        );
        whole = counted.whole;
        unused = counted.unused;
        parts = counted.parts;
      },
    )

pub returns-clause-told : goal.returns-clause-told
returns-clause-told g c = λ came.
    let s = c.self.inside in
    let i = c.piece.inside in
    let t = c.args.t in
    let a : PieceView = record { thread = i.thread; origin = i.origin; here = i.here; count = i.count } in
    let old : SharedView = record { log = s.log.items; room = s.log.room; machine = s.machine; given = s.given } in
    let told = c.in-Some.access in
    let Told : PieceView → SharedView → Type 0 = λ x y. TellsAccess y.log t x.count c.push_plain.new.self.items in
    subst (λ (x : PieceView). Told x c.args.self.now) c.piece.view_is
    (subst (λ (y : SharedView). Told a y) c.self.view_is (
      told,
      c.push_plain.ensures.entries
          ∙ ap (λ n. s.log.items ++ entry t a.count (Some (plain n told.value)) ∷ []) c.access_name.ensures,
    ))

pub returns-clause-legal : goal.returns-clause-legal
returns-clause-legal g c = (invariant_of-self-2 g c).0.legal
