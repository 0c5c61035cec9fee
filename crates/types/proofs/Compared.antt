-- Names that are compared one by one, and those that are found by their hashes.
use Rattle.std.proofs.Common.{◌≡◌, ℕ, suc, ◌+◌, ◌<◌, ◌≤◌, List, [], ◌∷◌, ◌++◌, length, map, take, drop, get_or}
use Rattle.std.proofs.Common.{Option, Some, None, Bool, true, false, cond, is_some, bytes_eq, refl, ap, sym, ◌∙◌, subst}
use Rattle.std.proofs.Common.{length-append, arith}
use Rattle.std.specs.Prelude.{option_map}
use Rattle.std.specs.Borrow.{Bor}
use Rattle.std.proofs.lemmas.List.{take_more, take_all, take-append-le, take-append-drop, length-take, length-take-le}
use Rattle.std.proofs.lemmas.List.{length-map}
use Rattle.std.proofs.lemmas.List.{get_or-map, map-append}
use Rattle.syntax.specs.Lexeme.{NameTree}
use Rattle.indexmap.specs.IndexMap.{get_by}
use Rattle.types.specs.declared.table.Table.{Table}
use Rattle.types.specs.declared.table.TheConstants.{MOST_COMPARED}
use Rattle.types.specs.Names.{number_in, text_number}
use Rattle.types.specs.Tables.{IsTable}
use Rattle.types.specs.Scope.{first_found}
use Rattle.types.proofs.Numbers.{number_more}

front : (b : Bool) (o p : Option ℕ) (k : ℕ) → ((j : ℕ) → o ≡ Some j → p ≡ Some j)
    → cond b (Some 0) (option_map suc o) ≡ Some k → cond b (Some 0) (option_map suc p) ≡ Some k
front true o p k f e = e
front false (Some n) p k f e = ap (option_map suc) (f n refl) ∙ e
front false None p k f e = let w : None ≡ Some k = e in cc

-- the first name that is written so stays the first, whatever stands behind it
number_front : (xs ys : List NameTree) (text : List ℕ) (k : ℕ) → text_number xs text ≡ Some k
    → text_number (xs ++ ys) text ≡ Some k
number_front [] ys text k e = let w : None ≡ Some k = e in cc
number_front (x ∷ xs) ys text k e = front (bytes_eq text x.text) (text_number xs text) (text_number (xs ++ ys) text) k
    (number_front xs ys text) e

-- texts that names have
abbrev pub HasTexts : List NameTree → List (Bor (List ℕ)) → Type 0
HasTexts names texts = map (λ x. x.now) texts ≡ map (λ n. n.text) names

same_length : (names : List NameTree) (texts : List (Bor (List ℕ))) → HasTexts names texts
    → length texts ≡ length names
same_length names texts h = sym (length-map texts (λ x. x.now)) ∙ ap length h ∙ length-map names (λ n. n.text)

same_text : (names : List NameTree) (texts : List (Bor (List ℕ))) (i : ℕ) (n : NameTree) (x : Bor (List ℕ))
    → HasTexts names texts → i < length texts → (get_or names i n).text ≡ (get_or texts i x).now
same_text names texts i n x h l =
    sym (get_or-map (λ m. m.text) names i n n.text (subst (λ k. i < k) (same_length names texts h) l))
    ∙ ap (λ ts. get_or ts i n.text) (sym h)
    ∙ get_or-map (λ y. y.now) texts i x n.text l

behind : (o : Option ℕ) (k : ℕ) (b : Bool) → o ≡ None → cond (is_some o) o (cond b (Some k) None)
    ≡ cond b (Some k) None
behind None k b e = refl
behind (Some n) k b e = let w : Some n ≡ None = e in cc

-- where the names before one aren't written so, that one decides
one_more : (names : List NameTree) (texts : List (Bor (List ℕ))) (i : ℕ) (x : Bor (List ℕ)) (text : List ℕ)
    → HasTexts names texts → i < length texts → text_number (take i names) text ≡ None
    → text_number (take (i + 1) names) text ≡ cond (bytes_eq text (get_or texts i x).now) (Some i) None
one_more names texts i x text h l e =
    let n : NameTree = record { text = []; place = record { line = 0; column = 0 } } in
    let short : i < length names = subst (λ k. i < k) (same_length names texts h) l in
    ap (λ ns. text_number ns text) (take_more names i n short)
    ∙ number_more (take i names) (get_or names i n) text
    ∙ behind (text_number (take i names) text) (length (take i names)) (bytes_eq text (get_or names i n).text) e
    ∙ ap (λ k. cond (bytes_eq text (get_or names i n).text) (Some k) None)
    (length-take-le i names (grind (arith, short)))
    ∙ ap (λ t. cond (bytes_eq text t) (Some i) None) (same_text names texts i n x h l)

pub none_more : (names : List NameTree) (texts : List (Bor (List ℕ))) (i : ℕ) (x : Bor (List ℕ)) (text : List ℕ)
    → HasTexts names texts → i < length texts → text_number (take i names) text ≡ None
    → bytes_eq text (get_or texts i x).now ≡ false → text_number (take (i + 1) names) text ≡ None
none_more names texts i x text h l e d = one_more names texts i x text h l e ∙ ap (λ b. cond b (Some i) None) d

pub found : (names : List NameTree) (texts : List (Bor (List ℕ))) (i : ℕ) (x : Bor (List ℕ)) (text : List ℕ)
    → HasTexts names texts → i < length texts → text_number (take i names) text ≡ None
    → bytes_eq text (get_or texts i x).now ≡ true → text_number names text ≡ Some i
found names texts i x text h l e d =
    ap (λ ns. text_number ns text) (sym (take-append-drop (i + 1) names))
    ∙ number_front (take (i + 1) names) (drop (i + 1) names) text i
    (one_more names texts i x text h l e ∙ ap (λ b. cond b (Some i) None) d)

pub not_found : (names : List NameTree) (texts : List (Bor (List ℕ))) (i : ℕ) (text : List ℕ)
    → HasTexts names texts → length texts ≤ i → text_number (take i names) text ≡ None → text_number names text ≡ None
not_found names texts i text h l e =
    ap (λ ns. text_number ns text) (sym (take_all i names (subst (λ k. k ≤ i) (same_length names texts h) l))) ∙ e

-- one name more in the list
pub texts_more : (names : List NameTree) (x : NameTree) (texts : List (Bor (List ℕ))) (t : Bor (List ℕ)) (most : ℕ)
    → length names < most → t.now ≡ x.text → HasTexts (take most names) texts
    → HasTexts (take most (names ++ x ∷ [])) (texts ++ t ∷ [])
texts_more names x texts t most l e h =
    map-append (λ y. y.now) texts (t ∷ [])
    ∙ ap (λ ts. ts ++ t.now ∷ []) (h ∙ ap (map (λ n. n.text)) (take_all most names (grind (arith, l))))
    ∙ ap (λ u. map (λ n. n.text) names ++ u ∷ []) e
    ∙ sym (map-append (λ n. n.text) names (x ∷ []))
    ∙ ap (map (λ n. n.text)) (sym (take_all most (names ++ x ∷ []) (grind (arith, length-append, l))))

-- a further name isn't in the list
pub texts_same : (names : List NameTree) (x : NameTree) (texts : List (Bor (List ℕ))) (most : ℕ)
    → most ≤ length names → HasTexts (take most names) texts → HasTexts (take most (names ++ x ∷ [])) texts
texts_same names x texts most l h =
    h ∙ ap (map (λ n. n.text)) (sym (take-append-le most names (x ∷ []) l))

absent : (o : Option ℕ) (p : Option ℕ) (g : Option ℕ) → ((j : ℕ) → o ≡ Some j → p ≡ Some j)
    → first_found o g ≡ o → first_found p g ≡ p
absent (Some n) p g f e = ap (λ q. first_found q g) (f n refl) ∙ sym (f n refl)
absent None (Some m) g f e = refl
absent None None g f e = e

-- as long as all names are in the list, the hashes give no more
pub listed : (names : List NameTree) (x : NameTree) (text : List ℕ) (g : Option ℕ) (most : ℕ) → length names < most
    → first_found (text_number (take most names) text) g ≡ text_number names text
    → first_found (text_number (take most (names ++ x ∷ [])) text) g ≡ text_number (names ++ x ∷ []) text
listed names x text g most l e =
    ap (λ ns. first_found (text_number ns text) g) (take_all most (names ++ x ∷ []) (grind (arith, length-append, l)))
    ∙ absent (text_number names text) (text_number (names ++ x ∷ []) text) g (number_front names (x ∷ []) text)
    (ap (λ ns. first_found (text_number ns text) g) (sym (take_all most names (grind (arith, l)))) ∙ e)

pub later : (b : Bool) (p g : Option ℕ) (k : ℕ) → (b ≡ true → first_found p g ≡ None)
    → first_found p (cond b (Some k) g) ≡ cond b (Some k) (first_found p g)
later true None g k f = refl
later true (Some n) g k f = let w : Some n ≡ None = f refl in cc
later false p g k f = refl

compared_first : (p g : Option ℕ) → is_some p ≡ true → first_found p g ≡ p
compared_first (Some n) g e = refl
compared_first None g e = let w : false ≡ true = e in cc

hashed : (p g : Option ℕ) → is_some p ≡ false → first_found p g ≡ g
hashed None g e = refl
hashed (Some n) g e = let w : true ≡ false = e in cc

-- a name that is found in the list, one that is sought among all names there, and one that isn't in the list
pub number_listed : (names : List NameTree) (t : Table) (name : NameTree) (p : Option ℕ) → IsTable names t
    → p ≡ text_number (take MOST_COMPARED names) name.text → is_some p ≡ true → p ≡ number_in names name
number_listed names t name p h e s = e ∙ sym (compared_first _ _ (ap is_some (sym e) ∙ s)) ∙ h.2 name

pub number_of_few : (names : List NameTree) (t : Table) (name : NameTree) (p : Option ℕ) → IsTable names t
    → p ≡ text_number (take MOST_COMPARED names) name.text → t.count ≤ MOST_COMPARED → p ≡ number_in names name
number_of_few names t name p h e l = e
    ∙ ap (λ ns. text_number ns name.text) (take_all MOST_COMPARED names (subst (λ k. k ≤ MOST_COMPARED) (sym h.0) l))

pub number_hashed : (names : List NameTree) (t : Table) (name : NameTree) (p : Option ℕ) → IsTable names t
    → p ≡ text_number (take MOST_COMPARED names) name.text → is_some p ≡ false
    → get_by (λ k. bytes_eq name.text k.now) t.numbers ≡ number_in names name
number_hashed names t name p h e s = sym (hashed _ _ (ap is_some (sym e) ∙ s)) ∙ h.2 name

pub few_listed : (names : List NameTree) → length (take MOST_COMPARED names) ≤ MOST_COMPARED
few_listed names = grind (arith, length-take)
