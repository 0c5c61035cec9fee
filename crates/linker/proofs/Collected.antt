-- Places for pieces.
use Rattle.std.proofs.Common.{◌≡◌, ◌<◌, ℕ, zero, suc, false, List, [], ◌∷◌, Option, Some, None, Vec, refl, sym, ap, ◌∙◌}
use Rattle.std.proofs.Common.{length, map, arith, get_or}
use Rattle.std.specs.Prelude.{is_some}
use Rattle.std.specs.Global.{Global}
use Rattle.lowering.specs.declared.mark.Marked.{Marked}
use Rattle.linker.specs.Collecting.{slot_of, IsFree}

empty : (s : Option (Vec Marked Global)) → is_some s ≡ false → slot_of s ≡ None
empty None e = refl
empty (Some code) e = absurd (cc)

-- a place in which nothing is
pub free_at : (slots : List (Option (Vec Marked Global))) (n : ℕ) (s : Option (Vec Marked Global)) → n < length slots
    → s ≡ get_or slots n s → is_some s ≡ false → IsFree (map slot_of slots) n
free_at [] n s lt is none = absurd (omega arith)
free_at (x ∷ slots) zero s lt is none = ap Some (empty x (ap is_some (sym is) ∙ none))
free_at (x ∷ slots) (suc n) s lt is none = free_at slots n s (omega arith) is none
