use Rattle.std.proofs.Common.{map, sym, subst, refl}
use Rattle.syntax.specs.View.{parameter_of, local_of}
use Rattle.callees.specs.Pieces.{piece_of}
use Rattle.types.specs.Scope.{Scope}
use Rattle.types.specs.Standings.{IsLocals, IsOwn}
use Rattle.unit_faults.proofs.bodies.statements.Goals as goal

pub returns : goal.returns
returns c u h here =
    let p = c.args.piece.now in
    let s : Scope = record { unit = u; piece = piece_of p } in
    let st = c.in_ok-standing.standing in
    let locals = subst (λ ls. IsLocals (map parameter_of p.parameters.now) (map local_of ls) st) c.deref.ensures.value
    c.in_ok-standing.ensures.locals in
    let own = subst (IsOwn s) (sym c.in_ok-standing.ensures.own) (c.own-own.ensures s h here refl) in
    c.in_scope.ensures u h (locals, own)
