-- Which lexemes a factor begins with.
use Rattle.std.proofs.Common.{◌≡◌, ℕ, List, [], ◌∷◌, Option, Some, None, true, is_some, refl, sym, subst}
use Rattle.scanner.specs.declared.token.Place.{Place}
use Rattle.scanner.specs.declared.token.Sign.TheVariants as S
use Rattle.syntax.specs.Lexeme.{Lexeme}
use Rattle.syntax.specs.Tree.{Constant, Reads, Group, Minus, Not}
use Rattle.grammar.specs.Machine.{AFactor, AnIndex, AMark, Closed, expression, expression_in}
use Rattle.grammar.specs.Reading.{StartsFactor}
use Rattle.grammar.proofs.Starts.{truth_starts}
use Rattle.token_cursor.specs.declared.operators.FactorStart.{FactorStart}
use Rattle.token_cursor.specs.declared.operators.FactorStart.TheVariants as F
use Rattle.token_cursor.specs.Openers.{start_lexeme, Starts}

start_starts : (s : FactorStart) (text : List ℕ) (place : Place) → StartsFactor (start_lexeme s text place)
start_starts (F.Number n) text place =
    record { symbols = []; make = λ _. Constant (record { value = n; place = place }); begins = refl }
start_starts (F.Truth value) text place = truth_starts value place
start_starts F.Name text place =
    record { symbols = AnIndex ∷ []; make = λ t. Reads (record { text = text; place = place }) t.0; begins = refl }
start_starts F.Paren text place = record {
  symbols = expression (AMark S.CloseParen ∷ Closed ∷ []);
  make = λ t. Group place (expression_in t);
  begins = refl;
}
start_starts F.Minus text place =
    record { symbols = AFactor ∷ Closed ∷ []; make = λ t. Minus place t.0; begins = refl }
start_starts F.Not text place =
    record { symbols = AFactor ∷ Closed ∷ []; make = λ t. Not place t.0; begins = refl }

-- a factor starts where its start was found
pub starts : (o : Option FactorStart) (text : List ℕ) (place : Place) (k : Lexeme)
    → Starts o text place k → is_some o ≡ true → StartsFactor k
starts (Some s) text place k h e = subst StartsFactor (sym h) (start_starts s text place)
starts None text place k h e = absurd cc
