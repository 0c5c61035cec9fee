-- What a piece in code says.
use Rattle.std.specs.Prelude.{List, ◌<◌, ◌+◌, ◌-◌, ◌^◌, length, map}
use Rattle.std.specs.List.{All}
use Rattle.syntax.specs.View.{parameter_of, body_of}
use Rattle.types.specs.Pieces.{Piece}
use Rattle.callees.specs.declared.piece.Piece.{Piece as PieceOf}

-- a piece
abbrev pub piece_of : PieceOf → Piece
piece_of p = record {
  role = p.role;
  place = p.place;
  parameters = map parameter_of p.parameters.now;
  returns = p.returns;
  body = body_of p.body.now;
}

-- 32 bits number pieces, and the parameters and locals of each
abbrev pub AreFew : List PieceOf → Type 0
AreFew ps = (length ps < 2 ^ 32) × All (λ p. length p.parameters.now + length p.body.now.locals.items < 2 ^ 32 - 1) ps
