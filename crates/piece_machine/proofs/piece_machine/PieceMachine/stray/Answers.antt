-- A wake from outside changes no holder and no phase.
use Rattle.std.proofs.Common.{◌≡◌, Ok, Err, refl, sym, ap, ◌∙◌, subst}
use Rattle.machine.specs.Views.{concrete}
use Rattle.machine.proofs.Steps.{hand_on}
use Rattle.piece_machine.specs.PieceConcrete.{PieceConcrete, Outcome, pieces_at, stray_piece, whole_at}
use Rattle.piece_machine.specs.PieceViews.{PieceView, pieces, parts, stray_step, Strays}
use Rattle.piece_machine.proofs.Beyond.{stray_done}
use Rattle.piece_machine.proofs.Owns.{kept_by, kept_fit, same_parts}
use Rattle.piece_machine.proofs.piece_machine.PieceMachine.stray.Goals as goal

pub invariant_of-self-2 : goal.invariant_of-self-2
invariant_of-self-2 c =
    let v = c.self.inside.machine in
    let v' = c.stray.new.self in
    let ph = c.self.inside.phases in
    let e = c.in_ok-stray.ensures in
    let k = parts (record { view = v; phases = ph }) in
    let r = stray_done v.program k (concrete v') c.args.t c.stray.new.event (kept_fit v ph c.self.invariant) e.done in
    let s : Strays v.program (pieces_at k) c.args.t c.stray.new.event (pieces (record { view = v'; phases = ph })) =
    subst (λ (q : PieceConcrete). Strays v.program (pieces_at k) c.args.t c.stray.new.event (pieces_at q))
    (sym (same_parts v v' ph e.holders)) r.0 in
    kept_by v v' ph ph (stray_step c.args.t c.stray.new.event.value) c.self.invariant e.program e.holds refl s.step

pub returns-clause-done : goal.returns-clause-done
returns-clause-done c =
    let v = c.self.inside.machine in
    let v' = c.stray.new.self in
    let ph = c.self.inside.phases in
    let e = c.in_ok-stray.ensures in
    let k = parts (record { view = v; phases = ph }) in
    subst (λ (q : PieceView). stray_piece (parts q) c.args.t
    ≡ (let o : Outcome = Ok (parts (record { view = v'; phases = ph }), c.stray.new.event) in o))
    c.self.view_is
    (ap (whole_at k) e.done ∙ (λ i. Ok (sym (same_parts v v' ph e.holders) i, c.stray.new.event)))

pub returns-in_err-stray-clause-err : goal.returns-in_err-stray-clause-err
returns-in_err-stray-clause-err c =
    let v = c.self.inside.machine in
    let ph = c.self.inside.phases in
    let f = c.in_err-stray.field-0.0 in
    let err = c.in_err-stray.ensures.err in
    hand_on c.from_residual.result f _ c.from_residual.ensures.1 (
      subst (λ (q : PieceView). stray_piece (parts q) c.args.t ≡ (let o : Outcome = Err f in o)) c.self.view_is
          (ap (whole_at (parts (record { view = v; phases = ph }))) err.0),
      (λ i. record { view = err.1 i; phases = ph }) ∙ c.self.view_is,
    )
