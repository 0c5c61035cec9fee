-- What a context says of a scope.
use Rattle.std.specs.Prelude.{◌≡◌, option_map}
use Rattle.types.specs.Kinds.{result_kind}
use Rattle.types.specs.Scope.{Scope}
use Rattle.types.specs.Standings.{IsNameScope}
use Rattle.callees.specs.Names.{IsCallees}
use Rattle.unit_faults.specs.declared.context.Context.{Context}

-- the names, the unit, the role and the result are those of the scope
pub record IsContext (s : Scope) (x : Context) : Type 0 where
  pub standing : IsNameScope s x.standing.now
  pub callees : IsCallees s.unit x.callees.now
  pub role : s.piece.role ≡ x.role
  pub returns : option_map result_kind s.piece.returns ≡ x.returns
