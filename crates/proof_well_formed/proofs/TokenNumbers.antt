-- The numbers of tokens are within their limit.
use Rattle.std.proofs.Common.{◌≡◌, ℕ, ◌≤◌, List, [], ◌∷◌, ◌++◌, sym, subst, slice_get, Some, zero, suc}
use Rattle.std.specs.Prelude.{⊤}
use Rattle.scanner.specs.Lexemes.{Spells}
use Rattle.scanner.specs.Limits.{most_number}
use Rattle.scanner.specs.Tokens.{TokenView, views, StandInOrder, IsTokens, end_at}
use Rattle.scanner.specs.declared.token.Keyword.{Keyword}
use Rattle.scanner.specs.declared.token.Keyword.TheVariants as K
use Rattle.scanner.specs.declared.token.Sign.{Sign}
use Rattle.scanner.specs.declared.token.Sign.TheVariants as S
use Rattle.scanner.specs.declared.token.Kind.{Kind}
use Rattle.scanner.specs.declared.token.Kind.TheVariants.{Keyword as AKeyword, Sign as ASign, Name as AName}
use Rattle.scanner.specs.declared.token.Kind.TheVariants.{Number as ANumber, End as TheEnd}
use Rattle.scanner.specs.declared.token.Place.{Place}
use Rattle.scanner.specs.declared.token.Token.{Token}
use Rattle.scanner.specs.Places.{start, place_after}
use Rattle.syntax.specs.Lexeme.{Lexeme, Numbered, keyword_lexeme, sign_lexeme, lexeme, lexemes}
use Rattle.syntax.specs.declared.leaf.Number.{Number}
use Rattle.syntax.specs.Spelling.{unit_text}
use Rattle.syntax.specs.Tree.{UnitTree}
use Rattle.proof_well_formed.specs.Faultless.{HasNumbers}
use Rattle.proof_well_formed.proofs.Lists.{place_of, some_same}
use Rattle.proof_well_formed.proofs.Numbers.{SmallLexeme, SmallText}

abbrev pub SmallKind : Kind → Type 0
SmallKind (ANumber n) = n ≤ most_number
SmallKind _ = ⊤

abbrev pub SmallKinds : List TokenView → Type 0
SmallKinds [] = ⊤
SmallKinds (t ∷ ts) = SmallKind t.kind × SmallKinds ts

spelled : (k : Kind) (bs : List ℕ) → Spells k bs → SmallKind k
spelled (AKeyword w) bs h = tt
spelled (ASign w) bs h = tt
spelled AName bs h = tt
spelled (ANumber n) bs h = h.2
spelled TheEnd bs h = tt

in_order : (p : Place) (bytes : List ℕ) (ts : List TokenView) (q : Place) (rest : List ℕ)
    → StandInOrder p bytes ts q rest → (place : Place) → SmallKinds (ts ++ end_at place ∷ [])
in_order p bytes [] q rest h place = (tt, tt)
in_order p bytes (t ∷ ts) q rest h place =
    (spelled t.kind t.text h.1.spells, in_order (place_after t.place t.text) h.0 ts q rest h.2 place)

keyword_small : (w : Keyword) (place : Place) → SmallLexeme (keyword_lexeme w place)
keyword_small K.Monitor place = tt
keyword_small _ place = tt

sign_small : (w : Sign) (place : Place) → SmallLexeme (sign_lexeme w place)
sign_small S.Plus place = tt
sign_small _ place = tt

lexeme_small : (k : Kind) (bs : List ℕ) (place : Place) → SmallKind k → SmallLexeme (lexeme k bs place)
lexeme_small (AKeyword w) bs place h = keyword_small w place
lexeme_small (ASign w) bs place h = sign_small w place
lexeme_small AName bs place h = tt
lexeme_small (ANumber n) bs place h = h
lexeme_small TheEnd bs place h = tt

lexemes_small : (ts : List Token) → SmallKinds (views ts) → SmallText (lexemes ts)
lexemes_small [] h = tt
lexemes_small (t ∷ ts) h = (lexeme_small t.kind t.text.now t.place h.0, lexemes_small ts h.1)

small_at : (ks : List Lexeme) (i : ℕ) (n : Number) → SmallText ks → slice_get ks i ≡ Some (Numbered n)
    → n.value ≤ most_number
small_at [] i n h e = cc
small_at (k ∷ ks) zero n h e = subst SmallLexeme (some_same k (Numbered n) e) h.0
small_at (k ∷ ks) (suc i) n h e = small_at ks i n h.1 e

pub have_numbers : (text : List ℕ) (ts : List Token) (u : UnitTree) → IsTokens text (views ts)
    → unit_text u ≡ lexemes ts → HasNumbers u
have_numbers text ts u t e n c =
    let small : SmallKinds (views ts) = subst SmallKinds (sym t.all)
    (in_order start text t.tokens t.place t.rest t.in_order (place_after t.place t.rest)) in
    let p = place_of (unit_text u) (Numbered n) c in
    small_at (unit_text u) p.0 n (subst SmallText (sym e) (lexemes_small ts small)) p.1
