-- An expression that may stand is read where a factor begins.
use Rattle.std.proofs.Common.{◌≡◌, ℕ, List, [], ◌∷◌, Some, Bool, true, false, refl}
use Rattle.scanner.specs.declared.token.Sign.TheVariants as S
use Rattle.scanner.specs.declared.token.Place.{Place}
use Rattle.syntax.specs.Lexeme.{Lexeme}
use Rattle.syntax.specs.Tree.{FactorTree, Constant, Truthful, Reads, Group, Minus, Not}
use Rattle.syntax.specs.Spelling.{factor_text, bool_lexeme}
use Rattle.grammar.specs.Machine.{Symbol, AMark, Closed, AFactor, AnIndex, Arguments, MoreArguments, AValue, Item}
use Rattle.grammar.specs.Machine.{expression, expression_rest, expression_in, expression_from, behind_expression}
use Rattle.grammar.specs.Machine.{behind_rest, reads, on_read}
use Rattle.grammar.specs.Reading.{lexeme_at, StartsFactor}
use Rattle.grammar.proofs.Complete.{plains}
use Rattle.grammar.proofs.Steps.{begun_on}

pub truth_starts : (value : Bool) (place : Place) → StartsFactor (bool_lexeme value place)
truth_starts true place = record {
  symbols = [];
  make =
      λ _. Truthful (record { value = true; place = place });
  begins = refl;
}
truth_starts false place = record {
  symbols = [];
  make =
      λ _. Truthful (record { value = false; place = place });
  begins = refl;
}

pub factor_starts : (f : FactorTree) (ks : List Lexeme) → StartsFactor (lexeme_at (plains (factor_text f ks)))
factor_starts (Constant n) ks = record { symbols = []; make = λ _. Constant n; begins = refl }
factor_starts (Truthful t) ks = truth_starts t.value t.place
factor_starts (Reads name index) ks = record { symbols = AnIndex ∷ []; make = λ t. Reads name t.0; begins = refl }
factor_starts (Group place e) ks = record {
  symbols = expression (AMark S.CloseParen ∷ Closed ∷ []);
  make =
      λ t. Group place (expression_in t);
  begins = refl;
}
factor_starts (Minus place f) ks = record {
  symbols = AFactor ∷ Closed ∷ [];
  make = λ t. Minus place t.0;
  begins =
      refl;
}
factor_starts (Not place f) ks = record { symbols = AFactor ∷ Closed ∷ []; make = λ t. Not place t.0; begins = refl }

pub arguments_begin : (m : ℕ) (ts : List Item) (κ : List Symbol) → StartsFactor (lexeme_at ts)
    → reads m ts (Arguments ∷ κ) ≡ on_read (λ y. (expression_in y ∷ (behind_expression y).0, (behind_expression y).1))
    (reads m ts (expression (MoreArguments ∷ κ)))
arguments_begin m ts κ s =
    begun_on m ts Arguments κ s.symbols (expression_rest (MoreArguments ∷ [])) s.make
    (λ f t. expression_from f t ∷ (behind_rest t).0) s.begins (rw s.begins refl)

pub value_begins : (m : ℕ) (ts : List Item) (κ : List Symbol) → StartsFactor (lexeme_at ts)
    → reads m ts (AValue ∷ κ) ≡ on_read (λ y. (Some (expression_in y), behind_expression y))
    (reads m ts (expression κ))
value_begins m ts κ s =
    begun_on m ts AValue κ s.symbols (expression_rest []) s.make (λ f t. Some (expression_from f t)) s.begins
    (rw s.begins refl)
