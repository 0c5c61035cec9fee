use Rattle.std.proofs.Common.{refl, sym, subst, map}
use Rattle.syntax.specs.View as v
use Rattle.types.specs.Scope.{Scope}
use Rattle.types.specs.Standings.{IsLocals, IsOwn}
use Rattle.callees.specs.Pieces.{piece_of}
use Rattle.resolver.proofs.procedures.procedure.Goals as goal

pub returns-clause-procedure : goal.returns-clause-procedure
returns-clause-procedure c = λ u k there.
    let s : Scope = record { unit = u; piece = piece_of c.args.piece.now } in
    let st = c.in_ok-standing.standing in
    let own : IsOwn s st.own =
    subst (IsOwn s) (sym c.in_ok-standing.ensures.own) (c.own-own.ensures s k there refl) in
    let names : IsLocals s.piece.parameters s.piece.body.locals st =
    subst (λ ls. IsLocals s.piece.parameters (map v.local_of ls) st) c.deref.ensures.value
    c.in_ok-standing.ensures.locals in
    c.in_scope.ensures.procedure u k (names, own)

pub returns-clause-clean : goal.returns-clause-clean
returns-clause-clean c = λ u k there.
    let s : Scope = record { unit = u; piece = piece_of c.args.piece.now } in
    let st = c.in_ok-standing.standing in
    let own : IsOwn s st.own =
    subst (IsOwn s) (sym c.in_ok-standing.ensures.own) (c.own-own.ensures s k there refl) in
    let names : IsLocals s.piece.parameters s.piece.body.locals st =
    subst (λ ls. IsLocals s.piece.parameters (map v.local_of ls) st) c.deref.ensures.value
    c.in_ok-standing.ensures.locals in
    c.in_scope.ensures.clean u k (names, own)
