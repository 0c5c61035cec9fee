-- What is appended to hints.
use Rattle.std.proofs.Common.{◌≡◌, ◌⊎◌, ◌++◌, ℕ, Bool, true, false, List, Result, Ok, Err, IfOk, MatchResult, inl, inr, if◌then◌else◌}
use Rattle.hint_lines.specs.HintLines.{AreHintLines}
use Rattle.answers.specs.Hinting.{HasHinted}

-- a text that is appended, where it can be
pub appended_or_not : (b : Bool) (old new more : List ℕ) → new ≡ (if b then old ++ more else old)
    → (new ≡ old ++ more) ⊎ (new ≡ old)
appended_or_not true old new more is = inl is
appended_or_not false old new more is = inr is

-- hints of a refusal are lines of hints
pub hinted : {S E : Type 0} (bytes : S → List ℕ) (r : Result S E) (wanted : Bool) (old new : List ℕ) → wanted ≡ true
    → IfOk r (λ s. AreHintLines (bytes s))
    → MatchResult r (λ s. (new ≡ old ++ bytes s) ⊎ (new ≡ old)) (λ _. new ≡ old) → HasHinted wanted old new
hinted bytes (Ok s) wanted old new asked lines (inl is) = inr (asked, bytes s, lines, is)
hinted bytes (Ok s) wanted old new asked lines (inr is) = inl is
hinted bytes (Err e) wanted old new asked lines is = inl is
