-- The refusal of tokens that are no unit, by what tokens say of themselves: there is one, and a unit has none.
use Rattle.std.proofs.Common.{◌≡◌, ◌≤◌, ◌⊎◌, inl, inr, List, [], ◌∷◌, ◌++◌, map, refl, sym, ap, ◌∙◌, subst}
use Rattle.std.proofs.Common.{append_assoc}
use Rattle.std.proofs.lemmas.List.{map-append}
use Rattle.scanner.specs.declared.token.Token.{Token}
use Rattle.scanner.specs.declared.token.Place.{Place}
use Rattle.scanner.specs.declared.refusal.Refusal.{Refusal}
use Rattle.scanner.specs.declared.refusal.RefusalKind.{RefusalKind}
use Rattle.scanner.specs.declared.refusal.RefusalKind.TheVariants.{Expected}
use Rattle.scanner.specs.declared.refusal.RefusalKind.TheVariants.{Limit}
use Rattle.scanner.specs.Tokens.{TokenView, view, views}
use Rattle.syntax.specs.Lexeme.{Lexeme}
use Rattle.syntax.specs.Limits.{most_nestings}
use Rattle.syntax.specs.Nesting.{unit_nesting}
use Rattle.syntax.specs.Spelling.{unit_text}
use Rattle.syntax.specs.Tree.{UnitTree}
use Rattle.grammar.specs.Accepts.{Begins, BeginsWithin, Why, IsRefusalOf}
use Rattle.compiler.proofs.Spoken.{said, spoken}

-- the same over what tokens say of themselves
pub record Stops (ts : List TokenView) (e : Refusal) : Type 0 where
  pub front : List TokenView
  pub token : TokenView
  pub back : List TokenView
  pub parts : ts ≡ front ++ token ∷ back
  pub place : e.place ≡ token.place
  pub begins : BeginsWithin most_nestings (map said front)
  pub why : Why e.kind (map said front) (said token)

pub stops : (ts : List Token) (e : Refusal) → IsRefusalOf ts e → Stops (views ts) e
stops ts e r = record {
  front = views r.front;
  token = view r.token;
  back = views r.back;
  parts = ap views r.parts ∙ map-append view r.front (r.token ∷ r.back);
  place = r.place;
  begins = subst (BeginsWithin most_nestings) (spoken r.front) r.begins;
  why = subst (λ ks. Why e.kind ks (said (view r.token))) (spoken r.front) r.why;
}

-- what begins a unit, begins one with fewer tokens too
begins_less : (ks js : List Lexeme) → Begins (ks ++ js) → Begins ks
begins_less ks js (u, rest, e) = (u, js ++ rest, e ∙ append_assoc ks js rest)

within_less : (ks js : List Lexeme) → BeginsWithin most_nestings (ks ++ js) → BeginsWithin most_nestings ks
within_less ks js (u, rest, e, n) = (u, js ++ rest, e ∙ append_assoc ks js rest, n)

begins_any : (ks : List Lexeme) → BeginsWithin most_nestings ks → Begins ks
begins_any ks (u, rest, e, n) = (u, rest, e)

-- no unit goes past a token that is refused
refused_there : (kind : RefusalKind) (ks : List Lexeme) (k : Lexeme) → Why kind ks k
    → BeginsWithin most_nestings (ks ++ k ∷ []) → ⊥
refused_there Expected ks k why b = why (begins_any (ks ++ k ∷ []) b)
refused_there Limit ks k why b = why.1 b
refused_there kind ks k why b = absurd why

-- a place has one kind of refusal
one_kind : (a b : RefusalKind) (ks : List Lexeme) (k : Lexeme) → Why a ks k → Why b ks k → a ≡ b
one_kind Expected Expected ks k x y = refl
one_kind Expected Limit ks k x y = absurd (x y.0)
one_kind Limit Expected ks k x y = absurd (y x.0)
one_kind Limit Limit ks k x y = refl
one_kind Expected b ks k x y = absurd y
one_kind Limit b ks k x y = absurd y
one_kind a b ks k x y = absurd x

said_through : (front more : List TokenView) (t : TokenView)
    → map said (front ++ t ∷ more) ≡ (map said front ++ said t ∷ []) ++ map said more
said_through front more t = map-append said front (t ∷ more) ∙ sym (append_assoc (map said front) (said t ∷ [])
    (map said more))

abbrev Compared : List TokenView → List TokenView → TokenView → TokenView → Type 0
Compared a b t u = ((a ≡ b) × (t ≡ u)) ⊎ (((more : List TokenView) × (b ≡ a ++ t ∷ more))
    ⊎ ((more : List TokenView) × (a ≡ b ++ u ∷ more)))

further : (x y t u : TokenView) (a b : List TokenView) → x ≡ y → Compared a b t u → Compared (x ∷ a) (y ∷ b) t u
further x y t u a b e (inl (p, q)) = inl (cc, q)
further x y t u a b e (inr (inl (more, p))) = inr (inl (more, cc))
further x y t u a b e (inr (inr (more, p))) = inr (inr (more, cc))

-- two tokens of one list are the same, or one stands before the other
compare_places : (a b as' bs : List TokenView) (t u : TokenView) → a ++ t ∷ as' ≡ b ++ u ∷ bs → Compared a b t u
compare_places [] [] as' bs t u e = inl (refl, cc)
compare_places [] (y ∷ b) as' bs t u e = inr (inl (b, cc))
compare_places (x ∷ a) [] as' bs t u e = inr (inr (a, cc))
compare_places (x ∷ a) (y ∷ b) as' bs t u e = further x y t u a b (cc) (compare_places a b as' bs t u (cc))

-- no refusal stands before another one
not_before : (ts : List TokenView) (e f : Refusal) (x : Stops ts e) (y : Stops ts f) (more : List TokenView)
    → y.front ≡ x.front ++ x.token ∷ more → ⊥
not_before ts e f x y more p =
    refused_there e.kind (map said x.front) (said x.token) x.why (within_less (map said x.front ++ said x.token ∷ [])
    (map said more) (subst (BeginsWithin most_nestings) (ap (map said) p ∙ said_through x.front more x.token) y.begins))

pub same_refusal : (e f : Refusal) → e.kind ≡ f.kind → e.place ≡ f.place → e ≡ f
same_refusal e f k p =
    ap (λ (x : RefusalKind). record { kind = x; place = e.place }) k
    ∙ ap (λ (x : Place). record { kind = f.kind; place = x }) p

-- tokens have one refusal
pub one_stop : (ts : List TokenView) (e f : Refusal) → Stops ts e → Stops ts f → e ≡ f
one_stop ts e f x y = elim (compare_places x.front y.front x.back y.back x.token y.token (sym x.parts ∙ y.parts)) [
  | inl (p, q) ↦ same_refusal e f (one_kind e.kind f.kind (map said x.front) (said x.token) x.why
      (subst (λ ks. Why f.kind ks (said x.token)) (ap (map said) (sym p)) (subst (λ t. Why f.kind (map said y.front)
      (said t)) (sym q) y.why))) (x.place ∙ (ap (λ t. t.place) q ∙ sym y.place))
  | inr (inl (more, p)) ↦ absurd (not_before ts e f x y more p)
  | inr (inr (more, p)) ↦ absurd (not_before ts f e y x more p)
]

-- and a unit has none
pub unit_not_refused : (ts : List TokenView) (u : UnitTree) (e : Refusal) → unit_text u ≡ map said ts
    → unit_nesting u ≤ most_nestings → Stops ts e → ⊥
unit_not_refused ts u e spelled within x =
    refused_there e.kind (map said x.front) (said x.token) x.why
    (u, map said x.back, spelled ∙ (ap (map said) x.parts ∙ said_through x.front x.back x.token), within)
