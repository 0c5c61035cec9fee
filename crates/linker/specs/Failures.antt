-- Why pieces aren't linked.
use Rattle.std.specs.Prelude.{◌≡◌, ℕ, List, ◌⊎◌, map, false, IsPermutation}
use Rattle.std.specs.List.Sorted.{IsNonDecreasingBy}
use Rattle.isa.specs.Programs.{IsProgram}
use Rattle.scanner.specs.declared.refusal.Refusal.{Refusal}
use Rattle.scanner.specs.declared.refusal.RefusalKind.TheVariants.{StrayPiece}
use Rattle.scanner.specs.Places.{start}
use Rattle.scanner.specs.Refusals.{out_of_memory}
use Rattle.lowering.specs.Layout.{Layout}
use Rattle.codegen.specs.declared.code_piece.CodePiece.{CodePiece}
use Rattle.codegen.specs.Generated.{Piece, piece_of}
use Rattle.codegen.specs.Failures.{too_long}
use Rattle.linker.specs.Linked.{IsOrder, are_from, image_of}

-- a number is foreign, doubled or missing
abbrev pub stray : Refusal
stray = record { kind = StrayPiece; place = start }

-- memory has run out, or what the cause says holds, which is refused as too long
abbrev pub FailsWhere : Type 0 → Refusal → Type 0
FailsWhere Cause e = (e ≡ out_of_memory) ⊎ ((e ≡ too_long) × Cause)

-- pieces by rising number don't have all numbers below the count, each once
pub record IsStray (count : ℕ) (pieces : List CodePiece) : Type 0 where
  pub sorted : List CodePiece
  pub same : IsPermutation pieces sorted
  pub rising : IsNonDecreasingBy (λ (x : Piece). x.number) (map piece_of sorted)
  pub other : are_from 0 count (map piece_of sorted) ≡ false

-- the image of the pieces isn't within the limits
pub record IsTooMuch (l : Layout) (pieces : List CodePiece) : Type 0 where
  pub sorted : List CodePiece
  pub order : IsOrder l.pieces pieces sorted
  pub over : IsProgram (image_of l (map piece_of sorted)) → ⊥

-- memory has run out, or the pieces don't have each number once, or their image isn't within the limits
abbrev pub RefusesLinking : Layout → List CodePiece → Refusal → Type 0
RefusesLinking l pieces e =
    (e ≡ out_of_memory) ⊎ (((e ≡ stray) × IsStray l.pieces pieces) ⊎ ((e ≡ too_long) × IsTooMuch l pieces))
