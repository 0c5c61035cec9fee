-- The piece that calls.
use Rattle.std.specs.Prelude.{ℕ, ◌≡◌, List, map}
use Rattle.callgraph.specs.declared.Call.{Call}
use Rattle.callees.specs.Names.{IsCallees}
use Rattle.types.specs.Scope.{Scope}
use Rattle.unit_faults.specs.declared.calls.Caller.{Caller}

-- it is that of a scope
pub record IsCaller (s : Scope) (c : Caller) : Type 0 where
  pub callees : IsCallees s.unit c.callees.now
  pub role : s.piece.role ≡ c.role

-- calls of these pieces by the piece of this number
abbrev pub calls_at : ℕ → List ℕ → List Call
calls_at n callees = map (λ callee. record { caller = n; callee = callee }) callees
