-- Lines of hints, one more behind the others.
use Rattle.std.proofs.Common.{◌≡◌, ℕ, List, [], ◌∷◌, ◌++◌}
use Rattle.std.specs.List.{flat_map}
use Rattle.std.proofs.lemmas.List.{flat_map_more}
use Rattle.hint_lines.specs.HintLines.{AreHintLines, hint_line}

-- no bytes are no lines
pub no_lines : (bytes : List ℕ) → bytes ≡ [] → AreHintLines bytes
no_lines bytes e = record { lines = []; text = e }

-- lines, and one more
pub one_more : (old new said : List ℕ) → AreHintLines old → new ≡ old ++ hint_line said → AreHintLines new
one_more old new said h e =
    let joined : ([] ++ flat_map hint_line h.lines) ++ hint_line said ≡ [] ++ flat_map hint_line (h.lines ++ said ∷ [])
    = flat_map_more hint_line [] h.lines said in
    let before : old ≡ flat_map hint_line h.lines = h.text in
    record { lines = h.lines ++ said ∷ []; text = cc }
