-- Names that are written alike.
use Rattle.std.proofs.Common.{◌≡◌, ℕ, zero, suc, List, [], ◌∷◌, Option, Some, None, Bool, true, false}
use Rattle.std.proofs.Common.{cond, is_some, bytes_eq, refl, sym, ap, ◌∙◌}
use Rattle.std.specs.Prelude.{slice_get, option_map}
use Rattle.std.proofs.lemmas.Slice.Eq.{bytes_eq-Decides}
use Rattle.syntax.specs.Lexeme.{NameTree}
use Rattle.types.specs.Names.{text_number}

-- one of the names is written so
abbrev pub IsAmong : List NameTree → List ℕ → Type 0
IsAmong names text = (i : ℕ) × (name : NameTree) × (slice_get names i ≡ Some name) × (name.text ≡ text)

found_later : (o : Option ℕ) → is_some (option_map suc o) ≡ true → is_some o ≡ true
found_later None h = h
found_later (Some n) h = refl

later_found : (o : Option ℕ) → is_some o ≡ true → is_some (option_map suc o) ≡ true
later_found None h = h
later_found (Some n) h = refl

one_behind : (n : NameTree) (ns : List NameTree) (text : List ℕ) → IsAmong ns text → IsAmong (n ∷ ns) text
one_behind n ns text (i, name, g, e) = (suc i, name, g, e)

first_or : (n : NameTree) (ns : List NameTree) (text : List ℕ) (b : Bool) → bytes_eq text n.text ≡ b
    → (is_some (text_number ns text) ≡ true → IsAmong ns text)
    → is_some (cond b (Some 0) (option_map suc (text_number ns text))) ≡ true → IsAmong (n ∷ ns) text
first_or n ns text true e rest h = (0, n, refl, sym ((bytes_eq-Decides text n.text).0 e))
first_or n ns text false e rest h = one_behind n ns text (rest (found_later (text_number ns text) h))

-- a name with a number is among them
pub among : (names : List NameTree) (text : List ℕ) → is_some (text_number names text) ≡ true → IsAmong names text
among [] text h = let w : false ≡ true = h in cc
among (n ∷ ns) text h = first_or n ns text (bytes_eq text n.text) refl (among ns text) h

numbered_or : (b : Bool) (o : Option ℕ) → is_some o ≡ true → is_some (cond b (Some 0) (option_map suc o)) ≡ true
numbered_or true o h = refl
numbered_or false o h = later_found o h

numbered_first : (b : Bool) (o : Option ℕ) → b ≡ true → is_some (cond b (Some 0) o) ≡ true
numbered_first b o h = ap (λ x. is_some (cond x (Some 0) o)) h

-- one that is among them has a number
pub numbered : (names : List NameTree) (text : List ℕ) → IsAmong names text → is_some (text_number names text) ≡ true
numbered [] text (i, name, g, e) = let w : None ≡ Some name = g in cc
numbered (n ∷ ns) text (zero, name, g, e) =
    let same : Some n ≡ Some name = g in
    let first : n ≡ name = cc in
    numbered_first (bytes_eq text n.text) (option_map suc (text_number ns text))
    ((bytes_eq-Decides text n.text).1 (sym e ∙ ap (λ x. x.text) (sym first)))
numbered (n ∷ ns) text (suc i, name, g, e) =
    numbered_or (bytes_eq text n.text) (text_number ns text) (numbered ns text (i, name, g, e))
