-- An access in place is a step in pieces, and what is kept is kept.
use Rattle.std.proofs.Common.{◌≡◌, true, Ok, ap, sym, subst, ◌∙◌}
use Rattle.std.specs.Prelude.{MatchOption}
use Rattle.machine.specs.Accessing.{HasNoAccess, told_access}
use Rattle.machine.specs.ConcreteSteps.{can_move}
use Rattle.machine.specs.Views.{concrete}
use Rattle.piece_machine.specs.PieceConcrete.{Outcome, piece_of}
use Rattle.piece_machine.specs.PieceViews.{PieceView, HasNoLocal, parts}
use Rattle.piece_machine.proofs.Accessed.{access_done, access_kept, access_program}
use Rattle.piece_machine.proofs.piece_machine.PieceMachine.access.Goals as goal

pub invariant_of-self : goal.invariant_of-self
invariant_of-self c =
    let v = c.self.inside.machine in
    let can = subst (λ (q : PieceView). can_move (concrete q.view) c.args.t ≡ true) (sym c.self.view_is) c.requires in
    access_kept v c.access.new.self c.self.inside.phases c.args.t c.access.result c.self.invariant can c.access.ensures.made

pub returns-clause-made : goal.returns-clause-made
returns-clause-made c =
    let v = c.self.inside.machine in
    let v' = c.access.new.self in
    let ph = c.self.inside.phases in
    let can = subst (λ (q : PieceView). can_move (concrete q.view) c.args.t ≡ true) (sym c.self.view_is) c.requires in
    subst (λ (q : PieceView). MatchOption c.access.result
    ((let w : PieceView = record { view = v'; phases = ph } in w) ≡ q × HasNoAccess q.view c.args.t)
    (λ told. (piece_of q.view.program (parts q) c.args.t
    ≡ (let o : Outcome = Ok (parts (record { view = v'; phases = ph }), told_access told) in o))
    × HasNoLocal q.view c.args.t)) c.self.view_is
    (access_done v v' ph c.args.t c.access.result can c.access.ensures.made)

pub returns-clause-program : goal.returns-clause-program
returns-clause-program c =
    access_program c.self.inside.machine c.access.new.self c.args.t c.access.result c.access.ensures.made
    ∙ ap (λ (q : PieceView). q.view.program) c.self.view_is
