-- What the machine refuses has no tree, and the place and the kind are right.
use Rattle.std.proofs.Common.{◌≡◌, ◌≤◌, ◌⊎◌, inl, inr, ℕ, ◌+◌, List, [], ◌∷◌, ◌++◌, refl, ap, sym, subst, ◌∙◌, arith}
use Rattle.std.proofs.Common.{append_assoc, max}
use Rattle.scanner.specs.Tokens.{EndsOnce, views}
use Rattle.scanner.specs.declared.token.Token.{Token}
use Rattle.scanner.specs.declared.token.Keyword.{Keyword}
use Rattle.scanner.specs.declared.token.Keyword.TheVariants as K
use Rattle.scanner.specs.declared.token.Sign.{Sign}
use Rattle.scanner.specs.declared.token.Sign.TheVariants as S
use Rattle.scanner.specs.declared.token.Kind.{Kind}
use Rattle.scanner.specs.declared.token.Kind.TheVariants.{Keyword as AKeyword, Sign as ASign, Name as TheName}
use Rattle.scanner.specs.declared.token.Kind.TheVariants.{Number as TheNumber, End}
use Rattle.scanner.specs.declared.token.Place.{Place}
use Rattle.scanner.specs.declared.refusal.Refusal.{Refusal}
use Rattle.scanner.specs.declared.refusal.RefusalKind.{RefusalKind}
use Rattle.scanner.specs.declared.refusal.RefusalKind.TheVariants.{Expected, Limit}
use Rattle.syntax.specs.Lexeme.{Lexeme, Finish, keyword_lexeme, sign_lexeme, lexeme, lexeme_of, lexemes}
use Rattle.syntax.specs.Tree.{UnitTree}
use Rattle.syntax.specs.Spelling.{unit_text}
use Rattle.syntax.specs.Nesting.{unit_nesting, statements_nesting, procedures_nesting, monitors_nesting}
use Rattle.grammar.specs.Machine.{Symbol, Item, item_of, items_of, Read, Refused, Trees, reads, refusal_at, unit}
use Rattle.grammar.specs.Machine.{unit_in, unit_trees}
use Rattle.grammar.specs.Accepts.{Begins, BeginsWithin, Why, IsRefusalOf}
use Rattle.grammar.proofs.Complete.{plains}
use Rattle.grammar.proofs.Whole.{unit_reads}
use Rattle.grammar.proofs.Halts.{Halts, stuck, full, goes, Stops, at, stops, never, item_lexemes, Last}
use Rattle.grammar.proofs.Deep.{Within, begins, could, read_within}
use Rattle.grammar.proofs.Reading.{lexemes_plains, spelled, accepted}

-- only the end has the lexeme of the end
no_keyword : (w : Keyword) (place : Place) → keyword_lexeme w place ≡ Finish → ⊥
no_keyword K.Program place h = cc
no_keyword _ place h = cc

no_sign : (s : Sign) (place : Place) → sign_lexeme s place ≡ Finish → ⊥
no_sign S.Assign place h = cc
no_sign _ place h = cc

is_end : (k : Kind) (text : List ℕ) (place : Place) → lexeme k text place ≡ Finish → k ≡ End
is_end (AKeyword w) text place h = absurd (no_keyword w place h)
is_end (ASign s) text place h = absurd (no_sign s place h)
is_end TheName text place h = absurd (cc)
is_end (TheNumber n) text place h = absurd (cc)
is_end End text place h = refl

pub last_of : (ts : List Token) → EndsOnce (views ts) → Last (items_of ts)
last_of [] h = h
last_of (t ∷ []) h = ap (λ k. lexeme k t.text.now t.place) h
last_of (t ∷ u ∷ ts) h = (λ e. h.0 (is_end t.kind t.text.now t.place e), last_of (u ∷ ts) h.1)

pub lexemes_items : (ts : List Token) → item_lexemes (items_of ts) ≡ lexemes ts
lexemes_items [] = refl
lexemes_items (t ∷ ts) = ap (λ l. lexeme_of t ∷ l) (lexemes_items ts)

max_end : (a b c m : ℕ) → a + (0 + 0) ≤ m → b + (0 + 0) ≤ m → c + (0 + 0) ≤ m → max a (max b c) ≤ m
max_end a b c m h i j = omega arith

unit_within : (m : ℕ) (x : Trees unit) → Within m 0 unit x → unit_nesting (unit_in x) ≤ m
unit_within m x w =
    max_end (monitors_nesting (unit_in x).monitors) (procedures_nesting (unit_in x).procedures)
    (statements_nesting (unit_in x).body.statements) m w.1.1.1.0 w.1.1.1.1.0 w.1.1.1.1.1.1.1.0

begins_within : (m : ℕ) (ks : List Lexeme) (k : Lexeme) (kind : RefusalKind) → Halts m unit ks k kind
    → BeginsWithin m ks
begins_within m ks k kind h =
    let x = begins (omega arith) h in
    (unit_in x.0, x.1, x.2, unit_within m x.0 x.3)

no_unit : (m n : ℕ) (ks : List Lexeme) (k : Lexeme) (kind : RefusalKind) → (kind ≡ Limit → n ≤ m)
    → Halts m unit ks k kind → (u : UnitTree) (rest : List Lexeme) → unit_nesting u ≤ n
    → unit_text u ≡ (ks ++ k ∷ []) ++ rest → ⊥
no_unit m n ks k kind top h u rest le e =
    never h n top (plains (unit_text u)) _ rest (lexemes_plains (unit_text u) ∙ e ∙ append_assoc ks (k ∷ []) rest)
    (unit_reads n u le)

why_expected : (ks : List Lexeme) (k : Lexeme) → Halts 64 unit ks k Expected → Begins (ks ++ k ∷ []) → ⊥
why_expected ks k h b = no_unit 64 (unit_nesting b.0) ks k Expected (λ l. cc) h b.0 b.1 (omega arith) b.2

why_limit : (ks : List Lexeme) (k : Lexeme) → Halts 64 unit ks k Limit
    → Begins (ks ++ k ∷ []) × (BeginsWithin 64 (ks ++ k ∷ []) → ⊥)
why_limit ks k h =
    let x = could refl h in (
      (unit_in x.0, x.1, x.2 ∙ sym (append_assoc ks (k ∷ []) x.1)),
      λ b. no_unit 64 64 ks k Limit (λ l. omega arith) h
          b.0 b.1 b.3 b.2,
    )

-- a fault of the machine is one of the two
halt_kind : {m : ℕ} {σ : List Symbol} {ks : List Lexeme} {k : Lexeme} {kind : RefusalKind} → Halts m σ ks k kind
    → (kind ≡ Expected) ⊎ (kind ≡ Limit)
halt_kind (stuck h) = inl refl
halt_kind (full h lt) = inr refl
halt_kind (goes h le next) = halt_kind next

why : (ks : List Lexeme) (k : Lexeme) (kind : RefusalKind) → Halts 64 unit ks k kind → Why kind ks k
why ks k kind h =
    let P : RefusalKind → Type 0 = λ x. Halts 64 unit ks k x in
    let Q : RefusalKind → Type 0 = λ x. Why x ks k in
    elim (halt_kind h) [
      | inl e ↦ subst Q (sym e) (why_expected ks k (subst P e h))
      | inr e ↦ subst Q (sym e)
          (why_limit ks k (subst P e h))
    ]

-- tokens at the same place as their items
record Parts (ts : List Token) (front : List Item) (t : Item) : Type 0 where
  before : List Token
  token : Token
  back : List Token
  parts : ts ≡ before ++ token ∷ back
  items : items_of before ≡ front
  item : item_of token ≡ t

more_parts : {ts : List Token} {front : List Item} {t : Item} (u : Token) → Parts ts front t
    → Parts (u ∷ ts) (item_of u ∷ front) t
more_parts u p = record {
  before = u ∷ p.before;
  token = p.token;
  back = p.back;
  parts =
      ap (λ l. u ∷ l) p.parts;
  items = ap (λ l. item_of u ∷ l) p.items;
  item = p.item;
}

parts_of : (ts : List Token) (front : List Item) (t : Item) (back : List Item) → items_of ts ≡ front ++ t ∷ back
    → Parts ts front t
parts_of [] [] t back e = absurd (cc)
parts_of [] (x ∷ front) t back e = absurd (cc)
parts_of (u ∷ ts) [] t back e = record { before = []; token = u; back = ts; parts = refl; items = refl; item = cc }
parts_of (u ∷ ts) (x ∷ front) t back e =
    let same : item_of u ≡ x = cc in
    let P : Item → Type 0 = λ y. Parts (u ∷ ts) (y ∷ front) t in
    subst P same (more_parts u (parts_of ts front t back (cc)))

of_halt : (ts : List Token) (e : Refusal) (front : List Item) (t : Item) (back : List Item) (kind : RefusalKind)
    → items_of ts ≡ front ++ t ∷ back → e ≡ refusal_at kind (t ∷ back)
    → Halts 64 unit (item_lexemes front) t.lexeme kind → IsRefusalOf ts e
of_halt ts e front t back kind same place h =
    let p = parts_of ts front t back same in
    let ks : item_lexemes front ≡ lexemes p.before = ap item_lexemes (sym p.items) ∙ lexemes_items p.before in
    let k : t.lexeme ≡ lexeme_of p.token = ap (λ i. i.lexeme) (sym p.item) in
    let f : kind ≡ e.kind = sym (ap (λ r. r.kind) place) in
    let at_place : e.place ≡ p.token.place = ap (λ r. r.place) place ∙ ap (λ i. i.place) (sym p.item) in
    let B : List Lexeme → Type 0 = BeginsWithin 64 in
    let AtLexemes : List Lexeme → Type 0 = λ l. Why kind l t.lexeme in
    let AtLexeme : Lexeme → Type 0 = λ j. Why kind (lexemes p.before) j in
    let AtKind : RefusalKind → Type 0 = λ x. Why x (lexemes p.before) (lexeme_of p.token) in
    record {
      front = p.before;
      token = p.token;
      back = p.back;
      parts = p.parts;
      place = at_place;
      begins = subst B ks (begins_within 64 (item_lexemes front) t.lexeme kind h);
      why = subst AtKind f (subst AtLexeme k (subst AtLexemes ks (why (item_lexemes front) t.lexeme kind h)));
    }

of_stops : (ts : List Token) (is : List Item) (e : Refusal) → items_of ts ≡ is → Stops 64 unit e is → IsRefusalOf ts e
of_stops ts _ e same (at {kind = kind} front t back p h) = of_halt ts e front t back kind same p h

-- the refusal of the machine is that of the tokens
pub refused : (ts : List Token) (e : Refusal) → EndsOnce (views ts) → reads 64 (items_of ts) unit ≡ Refused e
    → IsRefusalOf ts e
refused ts e once h = of_stops ts (items_of ts) e refl (stops 64 (items_of ts) unit e (last_of ts once) h)

-- the tokens of a unit within the limit are read as that unit
pub accepts : (ts : List Token) (u : UnitTree) → unit_nesting u ≤ 64 → unit_text u ≡ lexemes ts
    → reads 64 (items_of ts) unit ≡ Read (unit_trees u)
accepts ts u le e = accepted 64 (items_of ts) u le (lexemes_items ts ∙ sym e)

-- what is read spells the tokens, within the limit
pub spells : (ts : List Token) (u : UnitTree) → EndsOnce (views ts) → reads 64 (items_of ts) unit ≡ Read (unit_trees u)
    → unit_text u ≡ lexemes ts
spells ts u once h = sym (spelled 64 (items_of ts) unit (unit_trees u) (last_of ts once) h) ∙ lexemes_items ts

pub limits : (ts : List Token) (u : UnitTree) → reads 64 (items_of ts) unit ≡ Read (unit_trees u) → unit_nesting u ≤ 64
limits ts u h = unit_within 64 (unit_trees u) (read_within 64 (items_of ts) unit (unit_trees u) (omega arith) h)

at_most : (a b : ℕ) → (a ≤ max a b) × (b ≤ max a b)
at_most a b = (omega arith, omega arith)

-- a list of lexemes is the text of one unit at most
pub one_tree : (u v : UnitTree) → unit_text u ≡ unit_text v → u ≡ v
one_tree u v e =
    let m = max (unit_nesting u) (unit_nesting v) in
    let le = at_most (unit_nesting u) (unit_nesting v) in
    let p : reads m (plains (unit_text u)) unit ≡ Read (unit_trees u) = unit_reads m u le.0 in
    let q : reads m (plains (unit_text u)) unit ≡ Read (unit_trees v) =
    accepted m (plains (unit_text u)) v le.1 (lexemes_plains (unit_text u) ∙ e) in
    let same : unit_trees u ≡ unit_trees v = cc in
    ap unit_in same
