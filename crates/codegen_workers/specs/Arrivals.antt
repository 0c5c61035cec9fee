-- What has come once some workers have handed in their pieces.
use Rattle.std.specs.Prelude.{ℕ, ◌+◌, ◌%◌, Bool, List, [], ◌∷◌, Option, Some, None, cond, nat_lt}
use Rattle.program.specs.Trees.{Program, Procedure}
use Rattle.lowering.specs.declared.mark.Marked.{Marked}
use Rattle.lowering.specs.Pieces.{unlinked_code}
use Rattle.codegen.specs.Generated.{Piece}
use Rattle.linker.specs.Collecting.{added, IsFree}

-- each piece has a free place when it comes
abbrev pub AreFree : List (Option (List Marked)) → List Piece → Type 0
AreFree slots [] = Unit {0}
AreFree slots (x ∷ xs) = IsFree slots x.number × AreFree (added slots x) xs

-- the places once all of these pieces have come
abbrev pub all_added : List (Option (List Marked)) → List Piece → List (Option (List Marked))
all_added slots [] = slots
all_added slots (x ∷ xs) = all_added (added slots x) xs

-- the places of these procedures, the first of which has this number: the code of those that have come
abbrev pub places_of : (ℕ → Bool) → Program → ℕ → List Procedure → List (Option (List Marked))
places_of came p n [] = []
places_of came p n (q ∷ qs) = cond (came n) (Some (unlinked_code p q)) None ∷ places_of came p (n + 1) qs

-- whether a piece belongs to one of the first of so many workers
abbrev pub is_early : ℕ → ℕ → ℕ → Bool
is_early workers first n = nat_lt (n % workers) first

-- the places of a program's pieces, once the first of so many workers have handed in
abbrev pub handed_in : Program → ℕ → ℕ → List (Option (List Marked))
handed_in p workers first = places_of (is_early workers first) p 0 p.procedures
