-- The numbers of names, where one more is declared.
use Rattle.std.proofs.Common.{◌≡◌, ℕ, suc, List, [], ◌∷◌, ◌++◌, length, Option, Some, None, Bool, true, false}
use Rattle.std.proofs.Common.{cond, is_some, is_none, not, bytes_eq, refl, ap, ◌∙◌, sym}
use Rattle.std.specs.Prelude.{option_map}
use Rattle.std.proofs.lemmas.Slice.Eq.{bytes_eq-Decides}
use Rattle.syntax.specs.Lexeme.{NameTree}
use Rattle.types.specs.Names.{text_number}

number_behind : (b c : Bool) (o : Option ℕ) (k : ℕ)
    → cond b (Some 0) (option_map suc (cond (is_some o) o (cond c (Some k) None)))
    ≡ cond (is_some (cond b (Some 0) (option_map suc o))) (cond b (Some 0) (option_map suc o)) (cond c (Some
    (suc k)) None)
number_behind true c o k = refl
number_behind false c (Some n) k = refl
number_behind false true None k = refl
number_behind false false None k = refl

pub number_more : (names : List NameTree) (x : NameTree) (text : List ℕ) → text_number (names ++ x ∷ []) text
    ≡ cond (is_some (text_number names text)) (text_number names text) (cond (bytes_eq text x.text) (Some
    (length names)) None)
number_more [] x text = refl
number_more (n ∷ ns) x text =
    ap (λ o. cond (bytes_eq text n.text) (Some 0) (option_map suc o)) (number_more ns x text)
    ∙ number_behind (bytes_eq text n.text) (bytes_eq text x.text) (text_number ns text) (length ns)

both : (b c : Bool) → (b ≡ true → c ≡ true) → (c ≡ true → b ≡ true) → b ≡ c
both true c f g = sym (f refl)
both false true f g = g refl
both false false f g = refl

fresh : (b c : Bool) (o : Option ℕ) (k : ℕ) → b ≡ c → (b ≡ true → o ≡ None)
    → cond b (Some k) o ≡ cond (is_some o) o (cond c (Some k) None)
fresh true c None k e f = ap (λ d. cond d (Some k) None) e
fresh true c (Some n) k e f = let w : Some n ≡ None = f refl in cc
fresh false c None k e f = ap (λ d. cond d (Some k) None) e
fresh false c (Some n) k e f = refl

again : (c : Bool) (o : Option ℕ) (k : ℕ) → (c ≡ true → is_some o ≡ true)
    → o ≡ cond (is_some o) o (cond c (Some k) None)
again c (Some n) k f = refl
again true None k f = let w : false ≡ true = f refl in cc
again false None k f = refl

pub alike : (names : List NameTree) (a b : List ℕ) → bytes_eq a b ≡ true → text_number names a ≡ text_number names b
alike names a b e = ap (text_number names) ((bytes_eq-Decides a b).0 e)

turned : (a b : List ℕ) → bytes_eq a b ≡ true → bytes_eq b a ≡ true
turned a b e = (bytes_eq-Decides b a).1 (sym ((bytes_eq-Decides a b).0 e))

same_bytes : (a b : List ℕ) → bytes_eq a b ≡ bytes_eq b a
same_bytes a b = both (bytes_eq a b) (bytes_eq b a) (turned a b) (turned b a)

-- a name that wasn't declared
pub number_fresh : (names : List NameTree) (x : NameTree) (text : List ℕ) → text_number names x.text ≡ None
    → cond (bytes_eq x.text text) (Some (length names)) (text_number names text) ≡ text_number (names ++ x ∷ []) text
number_fresh names x text e = fresh (bytes_eq x.text text) (bytes_eq text x.text) (text_number names text)
    (length names)
    (same_bytes x.text text) (λ t. sym (alike names x.text text t) ∙ e) ∙ sym (number_more names x text)

-- a name that was declared
pub number_again : (names : List NameTree) (x : NameTree) (text : List ℕ) → is_some (text_number names x.text) ≡ true
    → text_number names text ≡ text_number (names ++ x ∷ []) text
number_again names x text e = again (bytes_eq text x.text) (text_number names text) (length names)
    (λ t. ap is_some (alike names text x.text t) ∙ e) ∙ sym (number_more names x text)

pub none_there : (o : Option ℕ) → is_some o ≡ false → o ≡ None
none_there None h = refl
none_there (Some n) h = let w : true ≡ false = h in cc

pub no_some : (o : Option ℕ) → not (is_some o) ≡ is_none o
no_some None = refl
no_some (Some n) = refl
