-- A step that is none of a call is one of the machine, and changes no holder.
use Rattle.std.proofs.Common.{◌≡◌, Ok, Err, refl, sym, ap, ◌∙◌, subst}
use Rattle.machine.proofs.Steps.{hand_on}
use Rattle.piece_machine.specs.PieceConcrete.{Outcome, pieces_at, whole_at, piece_of}
use Rattle.piece_machine.specs.PieceViews.{PieceView, pieces, parts, IsApart}
use Rattle.piece_machine.proofs.Given.{whole_is}
use Rattle.piece_machine.proofs.Taken.{whole_gives, kept_step}
use Rattle.piece_machine.proofs.piece_machine.PieceMachine.whole_step.Goals as goal

pub returns-clause-done : goal.returns-clause-done
returns-clause-done c =
    let v = c.self.inside.machine in
    let v' = c.step_as.new.self in
    let ph = c.self.inside.phases in
    let e = c.in_ok-step_as.ensures in
    let apart : IsApart v.program (pieces (record { view = v; phases = ph })) c.args.t =
    subst (λ (q : PieceView). IsApart q.view.program (pieces q) c.args.t) (sym c.self.view_is) c.requires.apart in
    subst (λ (q : PieceView). piece_of q.view.program (parts q) c.args.t
    ≡ (let o : Outcome = Ok (parts (record { view = v'; phases = ph }), c.step_as.new.event) in o)) c.self.view_is
    (whole_gives v v' ph c.args.t c.step_as.new.event apart e.holders e.done)

pub invariant_of-self-2 : goal.invariant_of-self-2
invariant_of-self-2 c =
    let v = c.self.inside.machine in
    let v' = c.step_as.new.self in
    let ph = c.self.inside.phases in
    let e = c.in_ok-step_as.ensures in
    let apart : IsApart v.program (pieces (record { view = v; phases = ph })) c.args.t =
    subst (λ (q : PieceView). IsApart q.view.program (pieces q) c.args.t) (sym c.self.view_is) c.requires.apart in
    kept_step v v' ph ph c.args.t c.step_as.new.event c.self.invariant e.program refl
    (whole_gives v v' ph c.args.t c.step_as.new.event apart e.holders e.done)

pub returns-in_err-step_as-clause-err : goal.returns-in_err-step_as-clause-err
returns-in_err-step_as-clause-err c =
    let v = c.self.inside.machine in
    let ph = c.self.inside.phases in
    let f = c.in_err-step_as.field-0.0 in
    let err = c.in_err-step_as.ensures.err in
    let k = parts (record { view = v; phases = ph }) in
    let apart : IsApart v.program (pieces_at k) c.args.t =
    subst (λ (q : PieceView). IsApart q.view.program (pieces q) c.args.t) (sym c.self.view_is) c.requires.apart in
    hand_on c.from_residual.result f _ c.from_residual.ensures.1 (
      subst (λ (q : PieceView). piece_of q.view.program (parts q) c.args.t ≡ (let o : Outcome = Err f in o)) c.self.view_is
          (whole_is v.program k c.args.t apart ∙ ap (whole_at k) err.0),
      (λ i. record { view = err.1 i; phases = ph }) ∙ c.self.view_is,
    )
