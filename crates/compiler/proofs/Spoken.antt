-- What tokens say, by what they say of themselves.
use Rattle.std.proofs.Common.{◌≡◌, List, [], ◌∷◌, map, refl, sym, ap, ◌∙◌}
use Rattle.scanner.specs.declared.token.Token.{Token}
use Rattle.scanner.specs.Tokens.{TokenView, views}
use Rattle.syntax.specs.Lexeme.{Lexeme, lexeme, lexemes}

abbrev pub said : TokenView → Lexeme
said v = lexeme v.kind v.text v.place

pub spoken : (ts : List Token) → lexemes ts ≡ map said (views ts)
spoken [] = refl
spoken (t ∷ ts) = ap (λ ks. said (record { kind = t.kind; text = t.text.now; place = t.place }) ∷ ks) (spoken ts)

-- tokens that say the same of themselves say the same
pub same_lexemes : (ts us : List Token) → views ts ≡ views us → lexemes ts ≡ lexemes us
same_lexemes ts us e = spoken ts ∙ (ap (map said) e ∙ sym (spoken us))
