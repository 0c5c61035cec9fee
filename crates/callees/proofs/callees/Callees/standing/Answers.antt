use Rattle.std.proofs.Common.{◌≡◌, ◌∙◌, ap, sym, subst, map}
use Rattle.syntax.specs.View.{parameter_of, local_of}
use Rattle.types.specs.Pieces.{pieces}
use Rattle.types.specs.Standings.{IsLocals, IsOwn}
use Rattle.callees.specs.Pieces.{piece_of}
use Rattle.callees.proofs.Growing.{both_ok, piece_at, contains_at}
use Rattle.callees.proofs.callees.Callees.standing.Goals as goal

pub returns : goal.returns
returns c = λ s h e.
    let p = c.index-piece.result.now in
    let same : piece_of p ≡ s.piece = ap piece_of c.index-piece.ensures
    ∙ piece_at c.args.self.now.pieces.items (pieces s.unit) c.args.number p s.piece h.pieces c.requires e in
    both_ok c.new.result _ _ _ (λ st a b. (
      subst (λ q. IsLocals q.parameters q.body.locals st) same
          (subst (λ ls. IsLocals (map parameter_of p.parameters.now) (map local_of ls) st) c.deref.ensures.value a),
      subst (IsOwn s) (sym b) (c.own.ensures s h (contains_at (pieces s.unit) c.args.number s.piece e)
          (ap (λ q. q.role) (sym same))),
    )) c.new.ensures.locals c.new.ensures.own
