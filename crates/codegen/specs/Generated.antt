-- The pieces of a program, before they are linked.
use Rattle.std.specs.Prelude.{◌≡◌, ◌<◌, ◌+◌, ◌⊎◌, ℕ, List, [], ◌∷◌, length}
use Rattle.isa.specs.Limits.{most_instructions}
use Rattle.scanner.specs.declared.refusal.Refusal.{Refusal}
use Rattle.scanner.specs.Refusals.{out_of_memory}
use Rattle.program.specs.Trees.{Program, Procedure}
use Rattle.lowering.specs.declared.mark.Marked.{Marked}
use Rattle.lowering.specs.Pieces.{unlinked_code}
use Rattle.codegen.specs.declared.code_piece.CodePiece.{CodePiece}
use Rattle.codegen.specs.Failures.{too_long}

-- the code of one procedure, by the number of its piece
pub record Piece : Type 0 where
  pub number : ℕ
  pub code : List Marked

-- a piece
abbrev pub piece_of : CodePiece → Piece
piece_of p = record { number = p.number; code = p.code.items }

-- of procedures from this number on
abbrev pub unlinked_from : Program → ℕ → List Procedure → List Piece
unlinked_from p n [] = []
unlinked_from p n (q ∷ qs) = record { number = n; code = unlinked_code p q } ∷ unlinked_from p (n + 1) qs

-- the pieces of a program
abbrev pub unlinked_pieces : Program → List Piece
unlinked_pieces p = unlinked_from p 0 p.procedures

-- how many instructions these procedures have
abbrev pub length_of : Program → List Procedure → ℕ
length_of p [] = 0
length_of p (q ∷ qs) = length (unlinked_code p q) + length_of p qs

-- memory has run out, or the program has more instructions than an image may have
abbrev pub RefusesPieces : Program → Refusal → Type 0
RefusesPieces p e = (e ≡ out_of_memory) ⊎ ((e ≡ too_long) × (most_instructions < length_of p p.procedures))
