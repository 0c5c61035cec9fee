-- The image of pieces in the order of their numbers.
use Rattle.std.specs.Prelude.{ℕ, ◌+◌, ◌-◌, ◌≡◌, Bool, true, false, List, [], ◌∷◌, ◌++◌, length, map, slice_index}
use Rattle.std.specs.Prelude.{nat_eq, nat_lt, nat_le, cond, ◌&&◌, IsPermutation}
use Rattle.isa.specs.Programs.{Program as Image}
use Rattle.isa.specs.Limits.{most_locals, most_arguments}
use Rattle.isa.specs.declared.slot.Slot.{Slot}
use Rattle.isa.specs.declared.slot.Slot.TheVariants.{Local, Template}
use Rattle.isa.specs.declared.instr.Instr.{Instr}
use Rattle.isa.specs.declared.instr.Instr.TheVariants.{GetLocal, SetLocal, Jump, JumpIfZero, Call, Fork}
use Rattle.lowering.specs.declared.mark.Marked.{Marked}
use Rattle.lowering.specs.Marks.{instructions}
use Rattle.lowering.specs.Layout.{Layout, words_in}
use Rattle.lowering.specs.Linking.{linked_code}
use Rattle.codegen.specs.declared.code_piece.CodePiece.{CodePiece}
use Rattle.codegen.specs.Generated.{Piece, piece_of}

-- the pieces have the numbers from n to the count, rising by one
abbrev pub are_from : ℕ → ℕ → List Piece → Bool
are_from n count [] = nat_eq n count
are_from n count (x ∷ xs) = cond (nat_eq x.number n) (are_from (n + 1) count xs) false

-- pieces in the order of their numbers: each number below the count is there once, and no other is
pub record IsOrder (count : ℕ) (pieces sorted : List CodePiece) : Type 0 where
  pub same : IsPermutation pieces sorted
  pub numbered : are_from 0 count (map piece_of sorted) ≡ true

-- how many instructions pieces have
abbrev pub length_of : List Piece → ℕ
length_of [] = 0
length_of (x ∷ xs) = length x.code + length_of xs

-- where pieces begin, one behind the other
abbrev pub places_from : ℕ → List Piece → List ℕ
places_from place [] = []
places_from place (x ∷ xs) = place ∷ places_from (place + length x.code) xs

-- the place at which piece n begins
abbrev pub begins : List Piece → ℕ → ℕ
begins pieces n = slice_index (places_from 0 pieces) n

-- the code of pieces, from a place on
abbrev pub code_from : (ℕ → ℕ) → ℕ → List Piece → List Marked
code_from starts place [] = []
code_from starts place (x ∷ xs) = linked_code starts place x.code ++ code_from starts (place + length x.code) xs

-- the image of pieces in their order, of the version of the layout; it begins where the last one begins
abbrev pub image_of : Layout → List Piece → Image
image_of l pieces = record {
  version = l.version;
  monitors = words_in l;
  start = begins pieces (length pieces - 1);
  code = instructions (code_from (begins pieces) 0 pieces);
}

-- the image of pieces that come in any order
pub record Links (l : Layout) (pieces : List CodePiece) (image : Image) : Type 0 where
  pub sorted : List CodePiece
  pub order : IsOrder l.pieces pieces sorted
  pub is : image ≡ image_of l (map piece_of sorted)

-- whether there is such a local
abbrev pub slot_fits : Slot → Bool
slot_fits (Local n) = nat_lt n most_locals
slot_fits Template = true

-- an instruction is within the limits of an image of so many, and leads to a place in it
abbrev pub fits : ℕ → Instr → Bool
fits total (GetLocal slot) = slot_fits slot
fits total (SetLocal slot) = slot_fits slot
fits total (Jump place) = nat_lt place total
fits total (JumpIfZero place) = nat_lt place total
fits total (Call place) = nat_lt place total
fits total (Fork place arguments) = nat_lt place total && nat_le arguments most_arguments
fits total i = true

-- whether all of them fit
abbrev pub all_fit : ℕ → List Instr → Bool
all_fit total [] = true
all_fit total (i ∷ is) = cond (fits total i) (all_fit total is) false
