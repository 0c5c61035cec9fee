-- What a tree says of tokens, by what they say of themselves.
use Rattle.std.proofs.Common.{◌≡◌, ◌∙◌, List, [], ◌∷◌, ap, map, refl, sym}
use Rattle.scanner.specs.declared.token.Token.{Token}
use Rattle.scanner.specs.Tokens.{TokenView, view, views}
use Rattle.syntax.specs.Lexeme.{Lexeme, lexeme, lexemes}

abbrev spoken_of : TokenView → Lexeme
spoken_of v = lexeme v.kind v.text v.place

spoken : (ts : List Token) → lexemes ts ≡ map spoken_of (views ts)
spoken [] = refl
spoken (t ∷ ts) = ap (λ ks. spoken_of (view t) ∷ ks) (spoken ts)

-- tokens that say the same of themselves are the same to a tree
pub same_lexemes : (ts us : List Token) → views ts ≡ views us → lexemes ts ≡ lexemes us
same_lexemes ts us e = spoken ts ∙ (ap (map spoken_of) e ∙ sym (spoken us))
