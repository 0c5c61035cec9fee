-- The scopes of a piece agree.
use Rattle.std.proofs.Common.{◌∙◌, ap, refl, option_map}
use Rattle.std.proofs.lemmas.Option.{slice_get-map}
use Rattle.program.specs.Scope.{scope_of}
use Rattle.syntax.specs.Tree.{UnitTree}
use Rattle.types.specs.Pieces.{Piece, pieces}
use Rattle.types.specs.Resolved.{procedure, resolved}
use Rattle.types.specs.Scope.{ALocal, AMember}
use Rattle.proof_well_formed.specs.Faultless.{IsFaultless}
use Rattle.proof_well_formed.proofs.Agreement.{Agrees}
use Rattle.proof_well_formed.proofs.Callees.{is_found}
use Rattle.proof_well_formed.proofs.Calls.{scope_at}
use Rattle.proof_well_formed.proofs.Judged.{few_parameters}
use Rattle.proof_well_formed.proofs.Lists.{contains_at}
use Rattle.proof_well_formed.proofs.Meanings.{stands, slot_has_kind, member_type_at}

pub agrees : (u : UnitTree) → IsFaultless u → (q : Piece)
    → Agrees (scope_at u q) (scope_of (resolved u) (procedure u q))
agrees u f q = record {
  local = λ name slot k e. stands (scope_at u q) name (ALocal slot k) e;
  member = λ name m k e. let p = stands (scope_at u q) name (AMember m k) e in
      (p.0, member_type_at u m.monitor m.number ∙ p.1);
  taker = λ name slot e. let p = slot_has_kind (scope_at u q) name slot e in (p.0, p.1, p.1);
  callee = λ c n x e at. is_found (scope_at u q) c n x e at;
  piece = λ n x at. (
    slice_get-map (procedure u) (pieces u) n ∙ ap (option_map (procedure u)) at,
    few_parameters u f x (contains_at (pieces u) n x at),
  );
  role = refl;
  result = refl;
}
