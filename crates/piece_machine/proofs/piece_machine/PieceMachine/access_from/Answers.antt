-- An access from where local steps led is a step in pieces, and what is kept is kept.
use Rattle.std.proofs.Common.{◌≡◌, true, None, ap, sym, subst, ◌∙◌}
use Rattle.std.specs.Prelude.{MatchOption}
use Rattle.locals.specs.Accesses.{accessing}
use Rattle.locals.specs.Looks.{look}
use Rattle.machine.specs.ConcreteSteps.{can_move}
use Rattle.machine.specs.Views.{concrete}
use Rattle.piece_machine.specs.PieceViews.{PieceView, DoneFrom, GoesTo}
use Rattle.piece_machine.proofs.Accessed.{from_done, from_kept, from_program}
use Rattle.piece_machine.proofs.piece_machine.PieceMachine.access_from.Goals as goal

pub invariant_of-self : goal.invariant_of-self
invariant_of-self c =
    let v = c.self.inside.machine in
    let can = subst (λ (q : PieceView). can_move (concrete q.view) c.args.t ≡ true) (sym c.self.view_is)
    c.requires.can_move in
    let goes = subst (λ (q : PieceView). GoesTo q.view c.args.t c.args.local.now) (sym c.self.view_is) c.requires.goes in
    from_kept v c.access_from.new.self c.self.inside.phases c.args.t c.args.local.now c.access_from.new.local
    c.access_from.result c.self.invariant can goes c.access_from.ensures

pub returns-clause-made : goal.returns-clause-made
returns-clause-made c =
    let v = c.self.inside.machine in
    let v' = c.access_from.new.self in
    let ph = c.self.inside.phases in
    let goes = subst (λ (q : PieceView). GoesTo q.view c.args.t c.args.local.now) (sym c.self.view_is) c.requires.goes in
    subst (λ (q : PieceView). MatchOption c.access_from.result
    (((let w : PieceView = record { view = v'; phases = ph } in w) ≡ q) × (c.access_from.new.local ≡ c.args.local.now)
    × (accessing (look q.view.program c.args.t c.args.local.now) q.view.words ≡ None))
    (λ told. DoneFrom told q c.args.t c.args.local.now (record { view = v'; phases = ph }) c.access_from.new.local))
    c.self.view_is
    (from_done v v' ph c.args.t c.args.local.now c.access_from.new.local c.access_from.result goes c.access_from.ensures)

pub returns-clause-program : goal.returns-clause-program
returns-clause-program c =
    from_program c.self.inside.machine c.access_from.new.self c.args.t c.args.local.now c.access_from.new.local
    c.access_from.result c.access_from.ensures
    ∙ ap (λ (q : PieceView). q.view.program) c.self.view_is
