-- Pieces that come in any order: a place for the code of each number.
use Rattle.std.specs.Prelude.{◌≡◌, ◌+◌, ℕ, Bool, List, [], ◌∷◌, Option, Some, None, Vec, slice_get, slice_set}
use Rattle.std.specs.Global.{Global}
use Rattle.std.specs.List.{list_any}
use Rattle.std.specs.Option.{is_none}
use Rattle.lowering.specs.declared.mark.Marked.{Marked}
use Rattle.codegen.specs.Generated.{Piece}

-- the code in a place, once it has come
abbrev pub slot_of : Option (Vec Marked Global) → Option (List Marked)
slot_of None = None
slot_of (Some code) = Some code.items

-- there is a place for a piece of this number, and nothing is in it
abbrev pub IsFree : List (Option (List Marked)) → ℕ → Type 0
IsFree slots n = slice_get slots n ≡ Some None

-- with a piece in its place
abbrev pub added : List (Option (List Marked)) → Piece → List (Option (List Marked))
added slots x = slice_set slots x.number (Some x.code)

-- the piece of some number hasn't come
abbrev pub has_gap : List (Option (List Marked)) → Bool
has_gap slots = list_any is_none slots

-- the pieces that have come, by rising number, where the first place is that of this number
abbrev pub collected : ℕ → List (Option (List Marked)) → List Piece
collected n [] = []
collected n (None ∷ slots) = collected (n + 1) slots
collected n (Some code ∷ slots) = record { number = n; code = code } ∷ collected (n + 1) slots
