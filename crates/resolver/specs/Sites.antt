-- What the tables of a site say of where its statements stand.
use Rattle.std.specs.Prelude.{ℕ, ◌≡◌, List, Bool, true, Option, Some, None, Vec, flat_map, length, option_map}
use Rattle.program.specs.declared.statement.Statement.{Statement}
use Rattle.program.specs.Trees.{Part, NoPart, SomePart}
use Rattle.program.specs.Views.{block_in}
use Rattle.std.specs.Global.{Global}
use Rattle.scanner.specs.declared.refusal.Refusal.{Refusal}
use Rattle.syntax.specs.Tree.{UnitTree}
use Rattle.types.specs.CallFaults.{block_faults}
use Rattle.types.specs.Kinds.{result_kind}
use Rattle.types.specs.Names.{body_scope}
use Rattle.types.specs.Pieces.{Piece, pieces}
use Rattle.types.specs.Scope.{Scope}
use Rattle.types.specs.Standings.{IsNameScope}
use Rattle.callees.specs.Names.{IsCallees}
use Rattle.resolver.specs.declared.site.Site.{Site}

-- they are those of the scope: of its piece's names, of its unit's declarations, its piece's role and result
pub record IsSite (s : Scope) (site : Site) : Type 0 where
  pub standing : IsNameScope s site.standing.now
  pub callees : IsCallees s.unit site.callees.now
  pub role : s.piece.role ≡ site.role
  pub returns : option_map result_kind s.piece.returns ≡ site.returns

-- how many parameters and locals a piece has
abbrev pub slots : Piece → ℕ
slots q = length (body_scope q.parameters q.body.locals)

-- the faults of a piece's statements
abbrev pub piece_faults : UnitTree → Piece → List Refusal
piece_faults u q = block_faults (record { unit = u; piece = q }) q.body.statements

-- those of the statements of all pieces
abbrev pub body_faults : UnitTree → List Refusal
body_faults u = flat_map (piece_faults u) (pieces u)

-- a part that may be left out, and whether it is clean
abbrev pub part_made : Option (Vec Statement Global × Bool) → Part
part_made None = NoPart
part_made (Some b) = SomePart (block_in b.0.items)

-- whether a part that may be left out is clean
abbrev pub is_part_clean : Option (Vec Statement Global × Bool) → Bool
is_part_clean None = true
is_part_clean (Some b) = b.1
