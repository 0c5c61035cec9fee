-- What a vector has where a slice is appended to it.
use Rattle.std.proofs.Common.{◌≡◌, List, ◌++◌, Result, Ok, Err, ap, ◌∙◌}
use Rattle.std.specs.Prelude.{OnOk, is_ok, if◌then◌else◌}

pub extended : {A T E : Type 0} (r : Result T E) (n o x made : List A) → n ≡ (if is_ok r then o ++ x else o)
    → x ≡ made → OnOk r (n ≡ o ++ made)
extended (Ok t) n o x made h e = h ∙ ap (λ l. o ++ l) e
extended (Err f) n o x made h e = tt
