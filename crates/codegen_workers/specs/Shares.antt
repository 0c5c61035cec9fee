-- The pieces of each worker.
use Rattle.std.specs.Prelude.{◌≡◌, ◌+◌, ◌%◌, ℕ, Bool, List, [], ◌∷◌, Result, Vec, map, filter, nat_eq, MatchResult}
use Rattle.std.specs.Global.{Global}
use Rattle.scanner.specs.declared.refusal.Refusal.{Refusal}
use Rattle.program.specs.Trees.{Program}
use Rattle.codegen.specs.declared.code_piece.CodePiece.{CodePiece}
use Rattle.codegen.specs.Generated.{Piece, piece_of, unlinked_pieces, RefusesPieces}

-- a piece belongs to the worker, from 0, that its number leaves as the rest by how many workers there are
abbrev pub belongs : ℕ → ℕ → Piece → Bool
belongs workers worker x = nat_eq (x.number % workers) worker

-- the pieces of a worker, by rising number
abbrev pub share_of : Program → ℕ → ℕ → List Piece
share_of p workers worker = filter (belongs workers worker) (unlinked_pieces p)

-- a worker has made its pieces, or has a cause to refuse them
abbrev pub IsShare : Program → ℕ → ℕ → Result (Vec CodePiece Global) Refusal → Type 0
IsShare p workers worker made =
    MatchResult made (λ pieces. map piece_of pieces.items ≡ share_of p workers worker) (λ e. RefusesPieces p e)

-- it holds of each of these and its number, where the first has this number
abbrev pub EachFrom : {X : Type 0} → (ℕ → X → Type 0) → ℕ → List X → Type 0
EachFrom P n [] = Unit {0}
EachFrom P n (x ∷ xs) = P n x × EachFrom P (n + 1) xs

-- what the workers from this one on have made, one after the other
abbrev pub AreShares : Program → ℕ → ℕ → List (Result (Vec CodePiece Global) Refusal) → Type 0
AreShares p workers = EachFrom (IsShare p workers)
