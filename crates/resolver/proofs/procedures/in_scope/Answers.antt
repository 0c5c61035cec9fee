use Rattle.std.proofs.Common.{◌∙◌, refl, ap, sym, map}
use Rattle.syntax.specs.View as v
use Rattle.types.specs.CallFaults.{block_faults}
use Rattle.types.specs.Kinds.{locals_kinds}
use Rattle.types.specs.Scope.{Scope}
use Rattle.types.specs.Statements as st
use Rattle.callees.specs.Pieces.{piece_of}
use Rattle.resolver.specs.Clean.{is_clean}
use Rattle.resolver.proofs.Pieces.{procedure_same}
use Rattle.resolver.proofs.procedures.in_scope.Goals as goal

pub returns-clause-procedure : goal.returns-clause-procedure
returns-clause-procedure c = λ u k names.
    let s : Scope = record { unit = u; piece = piece_of c.args.piece.now } in
    procedure_same s.piece.role _ _ _ _ _ _ _ _ c.in_ok-parameters.ensures
    (c.in_ok-locals.ensures ∙ ap (λ ls. locals_kinds (map v.local_of ls)) c.deref.ensures.value)
    c.result_of-returns.ensures
    (c.in_ok-statements.ensures.statements s (record {
      standing = names;
      callees = k;
      role = refl;
      returns = sym c.result_of-returns.ensures;
    }) ∙ ap (λ ts. st.block s (v.statements_in ts)) c.deref-2.ensures.value)

pub returns-clause-clean : goal.returns-clause-clean
returns-clause-clean c = λ u k names.
    let s : Scope = record { unit = u; piece = piece_of c.args.piece.now } in
    c.in_ok-statements.ensures.clean s (record {
      standing = names;
      callees = k;
      role = refl;
      returns = sym c.result_of-returns.ensures;
    }) ∙ ap (λ ts. is_clean (block_faults s (v.statements_in ts))) c.deref-2.ensures.value
