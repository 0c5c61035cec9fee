-- The pieces of a unit by their numbers: for each monitor its procedures in order, then its RECOVER part; then the
-- external procedures; then MAIN.
use Rattle.std.specs.Prelude.{ℕ, ◌+◌, List, [], ◌∷◌, ◌++◌, Option, Some, None, map, length, take}
use Rattle.scanner.specs.declared.token.Place.{Place}
use Rattle.program.specs.declared.kinds.Role.{Role}
use Rattle.program.specs.declared.kinds.Role.TheVariants.{Entry, Internal, Recover, External, Main}
use Rattle.syntax.specs.declared.declaration.ResultType.{ResultType}
use Rattle.syntax.specs.declared.declaration.Access.{Access}
use Rattle.syntax.specs.declared.declaration.Access.TheVariants as A
use Rattle.syntax.specs.Tree.{ParameterTree, BodyTree, ProcedureTree, RecoverTree}
use Rattle.syntax.specs.Tree.{MonitorTree, UnitTree}

-- a body that is called, forked or begun by itself, with what was declared of it
pub record Piece : Type 0 where
  pub role : Role
  -- the place of its declared name, or of RECOVER or MAIN
  pub place : Place
  pub parameters : List ParameterTree
  pub returns : Option ResultType
  pub body : BodyTree

-- a procedure that has this role
abbrev pub piece_of : Role → ProcedureTree → Piece
piece_of role q = record {
  role = role;
  place = q.name.place;
  parameters = q.parameters;
  returns = q.returns;
  body = q.body;
}

-- a part that nothing calls
abbrev pub part_of : Role → Place → BodyTree → Piece
part_of role place body = record { role = role; place = place; parameters = []; returns = None; body = body }

-- the role of a procedure of monitor m
abbrev pub role_of : Access → ℕ → Role
role_of A.Entry m = Entry m
role_of A.Internal m = Internal m

-- the RECOVER part of monitor m, if it has one
abbrev pub recover_pieces : ℕ → Option RecoverTree → List Piece
recover_pieces m None = []
recover_pieces m (Some r) = part_of (Recover m) r.place r.body ∷ []

-- the pieces of a monitor of this number
abbrev pub monitor_pieces : ℕ → MonitorTree → List Piece
monitor_pieces m t = map (λ q. piece_of (role_of q.access m) q.procedure) t.procedures ++ recover_pieces m t.recover

-- those of monitors, the first of which has this number
abbrev pub pieces_from : ℕ → List MonitorTree → List Piece
pieces_from m [] = []
pieces_from m (t ∷ ts) = monitor_pieces m t ++ pieces_from (m + 1) ts

-- all pieces of a unit, in the order of their numbers
abbrev pub pieces : UnitTree → List Piece
pieces u = pieces_from 0 u.monitors ++ map (piece_of External) u.procedures ++ part_of Main u.place u.body ∷ []

-- the number of a monitor's first piece, and of the first external procedure
abbrev pub first_piece : UnitTree → ℕ → ℕ
first_piece u m = length (pieces_from 0 (take m u.monitors))

-- the number of the first procedure outside monitors
abbrev pub first_external : UnitTree → ℕ
first_external u = length (pieces_from 0 u.monitors)
