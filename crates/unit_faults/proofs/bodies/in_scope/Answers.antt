use Rattle.std.proofs.Common.{sym, subst, refl}
use Rattle.syntax.specs.View.{statements_in}
use Rattle.callees.specs.Pieces.{piece_of}
use Rattle.types.specs.CallFaults.{block_faults}
use Rattle.types.specs.Faults.{Gathers}
use Rattle.types.specs.Scope.{Scope}
use Rattle.unit_faults.proofs.Collecting.{collects_list}
use Rattle.unit_faults.proofs.bodies.in_scope.Goals as goal

pub returns : goal.returns
returns c u h names =
    let p = c.args.piece.now in
    let s : Scope = record { unit = u; piece = piece_of p } in
    let known = c.block.ensures s (record {
      standing = names;
      callees = h;
      role = refl;
      returns = sym c.value_type.ensures;
    }) in
    collects_list (block_faults s (statements_in p.body.now.statements.items)) c.args.least c.block.result
    (subst (λ xs. Gathers (block_faults s (statements_in xs)) c.args.least c.block.result) c.deref.ensures.value
    known)
