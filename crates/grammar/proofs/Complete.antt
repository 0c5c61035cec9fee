-- What a tree spells is read as that tree.
use Rattle.std.proofs.Common.{◌≡◌, ◌≤◌, ℕ, ◌+◌, List, [], ◌∷◌, Bool, true, false, refl, arith, max}
use Rattle.scanner.specs.declared.token.Keyword.{Keyword}
use Rattle.scanner.specs.declared.token.Keyword.TheVariants as K
use Rattle.scanner.specs.declared.token.Sign.{Sign}
use Rattle.scanner.specs.declared.token.Sign.TheVariants as S
use Rattle.scanner.specs.declared.token.Place.{Place}
use Rattle.syntax.specs.declared.leaf.Number.{Number}
use Rattle.syntax.specs.declared.expression.Comparator.{Comparator}
use Rattle.syntax.specs.declared.expression.Comparator.TheVariants as C
use Rattle.syntax.specs.declared.expression.SumOperator.{SumOperator}
use Rattle.syntax.specs.declared.expression.SumOperator.TheVariants as O
use Rattle.syntax.specs.declared.expression.ProductOperator.{ProductOperator}
use Rattle.syntax.specs.declared.expression.ProductOperator.TheVariants as P
use Rattle.syntax.specs.Lexeme.{NameTree, Lexeme, Word, WordAt, Mark, MarkAt, Named, Numbered}
use Rattle.syntax.specs.Tree.{ExpressionTree, AnyOf, ConjunctionTrees, NoConjunctions, OrElse, AllOf, RelationTrees}
use Rattle.syntax.specs.Tree.{NoRelations, AndAlso, Relates, ComparisonTree, NoComparison, Compares, Total}
use Rattle.syntax.specs.Tree.{SummandTrees, NoSummands, Adds, Product, MultiplierTrees, NoMultipliers, Scales}
use Rattle.syntax.specs.Tree.{FactorTree, Constant, Truthful, Reads, Group, Minus, Not, IndexTree, NoIndex, At}
use Rattle.syntax.specs.Spelling.{expression_text, conjunctions_text, relations_text, comparison_text, summands_text}
use Rattle.syntax.specs.Spelling.{multipliers_text, factor_text, index_text, comparator_text, sum_sign, product_sign}
use Rattle.syntax.specs.Spelling.{bool_lexeme}
use Rattle.syntax.specs.Nesting.{expression_nesting, conjunctions_nesting, relations_nesting, comparison_nesting}
use Rattle.syntax.specs.Nesting.{summands_nesting, multipliers_nesting, factor_nesting, index_nesting}
use Rattle.grammar.specs.Machine.{Symbol, AWord, AMark, AWordAt, AnOpening, AName, ANumber, AFactor, AnIndex}
use Rattle.grammar.specs.Machine.{Multipliers, Summands, AComparison, Relations, Conjunctions, Closed, Skip, Item}
use Rattle.grammar.specs.Machine.{term, sum, relation, conjunction, expression, term_tree, sum_tree, relation_tree}
use Rattle.grammar.specs.Machine.{conjunction_tree, expression_in, ExpressionParts, reply_index, reply_multipliers}
use Rattle.grammar.specs.Machine.{reply_summands, reply_comparison, reply_relations, reply_conjunctions, reads}
use Rattle.grammar.specs.Machine.{on_read, nestings}
use Rattle.grammar.specs.Reading.{lexeme_at}
use Rattle.grammar.proofs.Codes.{word_reply, mark_reply, word_at_reply}
use Rattle.grammar.proofs.Steps.{on_reads, pushed, skipped}

-- these lexemes at some place
abbrev pub plain : Lexeme → Item
plain k = record { lexeme = k; place = record { line = 0; column = 0 } }

abbrev pub plains : List Lexeme → List Item
plains [] = []
plains (k ∷ ks) = plain k ∷ plains ks

-- terminals
pub word_reads : (m : ℕ) (w : Keyword) (ks : List Lexeme) (κ : List Symbol) → nestings κ ≤ m
    → reads m (plains (Word w ∷ ks)) (AWord w ∷ κ) ≡ on_read (λ y. (tt, y)) (reads m (plains ks) κ)
word_reads m w ks κ le = pushed m (plains (Word w ∷ ks)) (AWord w) κ [] (λ _. tt) (word_reply w) le

pub mark_reads : (m : ℕ) (s : Sign) (ks : List Lexeme) (κ : List Symbol) → nestings κ ≤ m
    → reads m (plains (Mark s ∷ ks)) (AMark s ∷ κ) ≡ on_read (λ y. (tt, y)) (reads m (plains ks) κ)
mark_reads m s ks κ le = pushed m (plains (Mark s ∷ ks)) (AMark s) κ [] (λ _. tt) (mark_reply s) le

pub word_at_reads : (m : ℕ) (w : Keyword) (place : Place) (ks : List Lexeme) (κ : List Symbol) → nestings κ ≤ m
    → reads m (plains (WordAt w place ∷ ks)) (AWordAt w ∷ κ) ≡ on_read (λ y. (place, y)) (reads m (plains ks) κ)
word_at_reads m w place ks κ le = pushed m (plains (WordAt w place ∷ ks)) (AWordAt w) κ [] (λ _. place)
    (word_at_reply w place) le

pub opening_reads : (m : ℕ) (place : Place) (ks : List Lexeme) (κ : List Symbol) → nestings κ ≤ m
    → reads m (plains (MarkAt S.OpenParen place ∷ ks)) (AnOpening ∷ κ) ≡ on_read (λ y. (place, y))
    (reads m (plains ks) κ)
opening_reads m place ks κ le = pushed m (plains (MarkAt S.OpenParen place ∷ ks)) AnOpening κ [] (λ _. place) refl le

pub name_reads : (m : ℕ) (x : NameTree) (ks : List Lexeme) (κ : List Symbol) → nestings κ ≤ m
    → reads m (plains (Named x ∷ ks)) (AName ∷ κ) ≡ on_read (λ y. (x, y)) (reads m (plains ks) κ)
name_reads m x ks κ le = pushed m (plains (Named x ∷ ks)) AName κ [] (λ _. x) refl le

pub number_reads : (m : ℕ) (n : Number) (ks : List Lexeme) (κ : List Symbol) → nestings κ ≤ m
    → reads m (plains (Numbered n ∷ ks)) (ANumber ∷ κ) ≡ on_read (λ y. (n, y)) (reads m (plains ks) κ)
number_reads m n ks κ le = pushed m (plains (Numbered n ∷ ks)) ANumber κ [] (λ _. n) refl le

pub closed_reads : (m : ℕ) (ks : List Lexeme) (κ : List Symbol) → reads m (plains ks) (Closed ∷ κ) ≡ on_read
    (λ y. (tt, y)) (reads m (plains ks) κ)
closed_reads m ks κ = skipped m (plains ks) Closed κ tt refl

-- lexemes with which a factor, a term, and each further level can't go on
pub record EndsFactor (k : Lexeme) : Type 0 where
  pub no_index : reply_index k ≡ Skip NoIndex

pub record EndsTerm (k : Lexeme) : Type 0 where
  pub factor : EndsFactor k
  pub no_multiplier : reply_multipliers k ≡ Skip NoMultipliers

pub record EndsSum (k : Lexeme) : Type 0 where
  pub term : EndsTerm k
  pub no_summand : reply_summands k ≡ Skip NoSummands

pub record EndsRelation (k : Lexeme) : Type 0 where
  pub sum : EndsSum k
  pub no_comparison : reply_comparison k ≡ Skip NoComparison

pub record EndsConjunction (k : Lexeme) : Type 0 where
  pub relation : EndsRelation k
  pub no_relation : reply_relations k ≡ Skip NoRelations

pub record EndsExpression (k : Lexeme) : Type 0 where
  pub conjunction : EndsConjunction k
  pub no_conjunction : reply_conjunctions k ≡ Skip NoConjunctions

after_multipliers : (fs : MultiplierTrees) (ks : List Lexeme) → EndsTerm (lexeme_at (plains ks))
    → EndsFactor (lexeme_at (plains (multipliers_text fs ks)))
after_multipliers NoMultipliers ks h = h.factor
after_multipliers (Scales P.Times f fs) ks h = record { no_index = refl }
after_multipliers (Scales P.Divide f fs) ks h = record { no_index = refl }
after_multipliers (Scales P.Mod f fs) ks h = record { no_index = refl }

after_summands : (ts : SummandTrees) (ks : List Lexeme) → EndsSum (lexeme_at (plains ks))
    → EndsTerm (lexeme_at (plains (summands_text ts ks)))
after_summands NoSummands ks h = h.term
after_summands (Adds O.Plus place t ts) ks h = record { factor = record { no_index = refl }; no_multiplier = refl }
after_summands (Adds O.Minus place t ts) ks h = record { factor = record { no_index = refl }; no_multiplier = refl }

after_comparison : (c : ComparisonTree) (ks : List Lexeme) → EndsRelation (lexeme_at (plains ks))
    → EndsSum (lexeme_at (plains (comparison_text c ks)))
after_comparison NoComparison ks h = h.sum
after_comparison (Compares C.Equal s) ks h = record {
  term =
      record { factor = record { no_index = refl }; no_multiplier = refl };
  no_summand = refl;
}
after_comparison (Compares C.NotEqual s) ks h =
    record { term = record { factor = record { no_index = refl }; no_multiplier = refl }; no_summand = refl }
after_comparison (Compares C.Less s) ks h = record {
  term =
      record { factor = record { no_index = refl }; no_multiplier = refl };
  no_summand = refl;
}
after_comparison (Compares C.LessEqual s) ks h =
    record { term = record { factor = record { no_index = refl }; no_multiplier = refl }; no_summand = refl }
after_comparison (Compares C.Greater s) ks h =
    record { term = record { factor = record { no_index = refl }; no_multiplier = refl }; no_summand = refl }
after_comparison (Compares C.GreaterEqual s) ks h =
    record { term = record { factor = record { no_index = refl }; no_multiplier = refl }; no_summand = refl }

after_relations : (rs : RelationTrees) (ks : List Lexeme) → EndsConjunction (lexeme_at (plains ks))
    → EndsRelation (lexeme_at (plains (relations_text rs ks)))
after_relations NoRelations ks h = h.relation
after_relations (AndAlso r rs) ks h = record {
  sum =
      record { term = record { factor = record { no_index = refl }; no_multiplier = refl }; no_summand = refl };
  no_comparison = refl;
}

after_conjunctions : (cs : ConjunctionTrees) (ks : List Lexeme) → EndsExpression (lexeme_at (plains ks))
    → EndsConjunction (lexeme_at (plains (conjunctions_text cs ks)))
after_conjunctions NoConjunctions ks h = h.conjunction
after_conjunctions (OrElse c cs) ks h = record {
  relation =
      record {
        sum = record {
          term = record { factor = record { no_index = refl }; no_multiplier = refl };
          no_summand =
              refl;
        };
        no_comparison = refl;
      };
  no_relation = refl;
}

pub ends_at_close_paren : EndsExpression (Mark S.CloseParen)
ends_at_close_paren =
    record {
      conjunction = record {
        relation =
            record {
              sum = record {
                term = record { factor = record { no_index = refl }; no_multiplier = refl };
                no_summand =
                    refl;
              };
              no_comparison = refl;
            };
        no_relation = refl;
      };
      no_conjunction = refl;
    }

pub ends_at_close_bracket : EndsExpression (Mark S.CloseBracket)
ends_at_close_bracket = record {
  conjunction =
      record {
        relation =
            record {
              sum = record {
                term = record { factor = record { no_index = refl }; no_multiplier = refl };
                no_summand =
                    refl;
              };
              no_comparison = refl;
            };
        no_relation = refl;
      };
  no_conjunction = refl;
}

pub ends_at_semicolon : EndsExpression (Mark S.Semicolon)
ends_at_semicolon =
    record {
      conjunction = record {
        relation =
            record {
              sum = record {
                term = record { factor = record { no_index = refl }; no_multiplier = refl };
                no_summand =
                    refl;
              };
              no_comparison = refl;
            };
        no_relation = refl;
      };
      no_conjunction = refl;
    }

pub ends_at_comma : EndsExpression (Mark S.Comma)
ends_at_comma =
    record {
      conjunction = record {
        relation =
            record {
              sum = record {
                term = record { factor = record { no_index = refl }; no_multiplier = refl };
                no_summand =
                    refl;
              };
              no_comparison = refl;
            };
        no_relation = refl;
      };
      no_conjunction = refl;
    }

pub ends_at_then : EndsExpression (Word K.Then)
ends_at_then =
    record {
      conjunction = record {
        relation =
            record {
              sum = record {
                term = record { factor = record { no_index = refl }; no_multiplier = refl };
                no_summand =
                    refl;
              };
              no_comparison = refl;
            };
        no_relation = refl;
      };
      no_conjunction = refl;
    }

pub ends_at_do : EndsExpression (Word K.Do)
ends_at_do =
    record {
      conjunction = record {
        relation =
            record {
              sum = record {
                term = record { factor = record { no_index = refl }; no_multiplier = refl };
                no_summand =
                    refl;
              };
              no_comparison = refl;
            };
        no_relation = refl;
      };
      no_conjunction = refl;
    }

pub ends_at_into : EndsExpression (Word K.Into)
ends_at_into =
    record {
      conjunction = record {
        relation =
            record {
              sum = record {
                term = record { factor = record { no_index = refl }; no_multiplier = refl };
                no_summand =
                    refl;
              };
              no_comparison = refl;
            };
        no_relation = refl;
      };
      no_conjunction = refl;
    }

pub ends_at_aborted : EndsExpression (Word K.Aborted)
ends_at_aborted =
    record {
      conjunction = record {
        relation =
            record {
              sum = record {
                term = record { factor = record { no_index = refl }; no_multiplier = refl };
                no_summand =
                    refl;
              };
              no_comparison = refl;
            };
        no_relation = refl;
      };
      no_conjunction = refl;
    }

module _ (m : ℕ) where
  abbrev pub FactorReads : FactorTree → Type 0
  FactorReads f = (ks : List Lexeme) (κ : List Symbol) → factor_nesting f + nestings κ ≤ m
      → EndsFactor (lexeme_at (plains ks)) → reads m (plains (factor_text f ks)) (AFactor ∷ κ) ≡ on_read (λ y. (f, y))
      (reads m (plains ks) κ)

  abbrev pub MultipliersRead : MultiplierTrees → Type 0
  MultipliersRead fs = (ks : List Lexeme) (κ : List Symbol) → multipliers_nesting fs + nestings κ ≤ m
      → EndsTerm (lexeme_at (plains ks)) → reads m (plains (multipliers_text fs ks)) (Multipliers ∷ κ) ≡ on_read
      (λ y. (fs, y)) (reads m (plains ks) κ)

  abbrev pub SummandsRead : SummandTrees → Type 0
  SummandsRead ts = (ks : List Lexeme) (κ : List Symbol) → summands_nesting ts + nestings κ ≤ m
      → EndsSum (lexeme_at (plains ks)) → reads m (plains (summands_text ts ks)) (Summands ∷ κ) ≡ on_read
      (λ y. (ts, y)) (reads m (plains ks) κ)

  abbrev pub ComparisonReads : ComparisonTree → Type 0
  ComparisonReads c = (ks : List Lexeme) (κ : List Symbol) → comparison_nesting c + nestings κ ≤ m
      → EndsRelation (lexeme_at (plains ks)) → reads m (plains (comparison_text c ks)) (AComparison ∷ κ) ≡ on_read
      (λ y. (c, y)) (reads m (plains ks) κ)

  abbrev pub RelationsRead : RelationTrees → Type 0
  RelationsRead rs = (ks : List Lexeme) (κ : List Symbol) → relations_nesting rs + nestings κ ≤ m
      → EndsConjunction (lexeme_at (plains ks)) → reads m (plains (relations_text rs ks)) (Relations ∷ κ) ≡ on_read
      (λ y. (rs, y)) (reads m (plains ks) κ)

  abbrev pub ConjunctionsRead : ConjunctionTrees → Type 0
  ConjunctionsRead cs = (ks : List Lexeme) (κ : List Symbol) → conjunctions_nesting cs + nestings κ ≤ m
      → EndsExpression (lexeme_at (plains ks)) → reads m (plains (conjunctions_text cs ks))
      (Conjunctions ∷ κ) ≡ on_read (λ y. (cs, y)) (reads m (plains ks) κ)

-- each of several nestings is within a bound where the most is
two : (a b n m : ℕ) → max a b + n ≤ m → (a + n ≤ m) × (b + n ≤ m)
two a b n m h = (omega arith, omega arith)

-- the levels of an expression, where its parts are read
term_parts : (m : ℕ) (f : FactorTree) (fs : MultiplierTrees) (ks : List Lexeme) (κ : List Symbol) → FactorReads m f
    → MultipliersRead m fs → max (factor_nesting f) (multipliers_nesting fs) + nestings κ ≤ m
    → EndsTerm (lexeme_at (plains ks)) → reads m (plains (factor_text f (multipliers_text fs ks))) (term κ) ≡ on_read
    (λ y. (f, (fs, y))) (reads m (plains ks) κ)
term_parts m f fs ks κ p q le h =
    let r = two (factor_nesting f) (multipliers_nesting fs) (nestings κ) m le in
    rw (p (multipliers_text fs ks) (Multipliers ∷ κ) r.0 (after_multipliers fs ks h), q ks κ r.1 h) (simp on_reads)

sum_parts : (m : ℕ) (f : FactorTree) (fs : MultiplierTrees) (ts : SummandTrees) (ks : List Lexeme) (κ : List Symbol)
    → FactorReads m f → MultipliersRead m fs → SummandsRead m ts → max
    (max (factor_nesting f) (multipliers_nesting fs)) (summands_nesting ts) + nestings κ ≤ m
    → EndsSum (lexeme_at (plains ks)) → reads m (plains (factor_text f (multipliers_text fs (summands_text ts ks))))
    (sum κ) ≡ on_read (λ y. (f, (fs, (ts, y)))) (reads m (plains ks) κ)
sum_parts m f fs ts ks κ p q u le h =
    let r = two (max (factor_nesting f) (multipliers_nesting fs)) (summands_nesting ts) (nestings κ) m le in
    rw (term_parts m f fs (summands_text ts ks) (Summands ∷ κ) p q r.0 (after_summands ts ks h), u ks κ r.1 h)
    (simp on_reads)

relation_parts : (m : ℕ) (f : FactorTree) (fs : MultiplierTrees) (ts : SummandTrees) (c : ComparisonTree)
    (ks : List Lexeme) (κ : List Symbol) → FactorReads m f → MultipliersRead m fs → SummandsRead m ts
    → ComparisonReads m c → max (max (max (factor_nesting f) (multipliers_nesting fs)) (summands_nesting ts))
    (comparison_nesting c) + nestings κ ≤ m → EndsRelation (lexeme_at (plains ks))
    → reads m (plains (factor_text f (multipliers_text fs (summands_text ts (comparison_text c ks)))))
    (relation κ) ≡ on_read (λ y. (f, (fs, (ts, (c, y))))) (reads m (plains ks) κ)
relation_parts m f fs ts c ks κ p q u v le h =
    let r = two (max (max (factor_nesting f) (multipliers_nesting fs)) (summands_nesting ts)) (comparison_nesting c)
    (nestings κ) m le in
    rw (sum_parts m f fs ts (comparison_text c ks) (AComparison ∷ κ) p q u r.0 (after_comparison c ks h), v ks κ r.1 h)
    (simp on_reads)

conjunction_parts : (m : ℕ) (f : FactorTree) (fs : MultiplierTrees) (ts : SummandTrees) (c : ComparisonTree)
    (rs : RelationTrees) (ks : List Lexeme) (κ : List Symbol) → FactorReads m f → MultipliersRead m fs
    → SummandsRead m ts → ComparisonReads m c → RelationsRead m rs → max
    (max (max (max (factor_nesting f) (multipliers_nesting fs)) (summands_nesting ts)) (comparison_nesting c))
    (relations_nesting rs) + nestings κ ≤ m → EndsConjunction (lexeme_at (plains ks))
    → reads m
    (plains (factor_text f (multipliers_text fs (summands_text ts (comparison_text c (relations_text rs ks))))))
    (conjunction κ) ≡ on_read (λ y. (f, (fs, (ts, (c, (rs, y)))))) (reads m (plains ks) κ)
conjunction_parts m f fs ts c rs ks κ p q u v w le h =
    let r = two (max (max (max (factor_nesting f) (multipliers_nesting fs)) (summands_nesting ts))
    (comparison_nesting c)) (relations_nesting rs) (nestings κ) m le in
    rw (
      relation_parts m f fs ts c (relations_text rs ks) (Relations ∷ κ) p q u v r.0 (after_relations rs ks h),
      w ks κ
          r.1 h,
    ) (simp on_reads)

pub expression_parts : (m : ℕ) (f : FactorTree) (fs : MultiplierTrees) (ts : SummandTrees) (c : ComparisonTree)
    (rs : RelationTrees) (cs : ConjunctionTrees) (ks : List Lexeme) (κ : List Symbol) → FactorReads m f
    → MultipliersRead m fs → SummandsRead m ts → ComparisonReads m c → RelationsRead m rs → ConjunctionsRead m cs
    → max (max (max (max (max (factor_nesting f) (multipliers_nesting fs)) (summands_nesting ts))
    (comparison_nesting c)) (relations_nesting rs)) (conjunctions_nesting cs) + nestings κ ≤ m
    → EndsExpression (lexeme_at (plains ks)) → reads m
    (plains
    (factor_text f
    (multipliers_text fs (summands_text ts (comparison_text c (relations_text rs (conjunctions_text cs ks)))))))
    (expression κ) ≡ on_read (λ y. (f, (fs, (ts, (c, (rs, (cs, y))))))) (reads m (plains ks) κ)
expression_parts m f fs ts c rs cs ks κ p q u v w x le h =
    let r =
    two (max (max (max (max (factor_nesting f) (multipliers_nesting fs)) (summands_nesting ts))
    (comparison_nesting c)) (relations_nesting rs)) (conjunctions_nesting cs) (nestings κ) m le in
    rw (
      conjunction_parts m f fs ts c rs (conjunctions_text cs ks) (Conjunctions ∷ κ) p q u v w r.0
          (after_conjunctions cs ks h),
      x ks κ r.1 h,
    ) (simp on_reads)

-- behind an operator
multiplier_reads : (m : ℕ) (op : ProductOperator) (ks : List Lexeme) (κ : List Symbol) → nestings κ ≤ m
    → reads m (plains (product_sign op ∷ ks)) (Multipliers ∷ κ) ≡ on_read (λ y. (Scales op y.0 y.1.0, y.1.1))
    (reads m (plains ks) (AFactor ∷ Multipliers ∷ κ))
multiplier_reads m P.Times ks κ le = pushed m (plains (product_sign P.Times ∷ ks)) Multipliers κ
    (AFactor ∷ Multipliers ∷ []) (λ t. Scales P.Times t.0 t.1.0) refl le
multiplier_reads m P.Divide ks κ le = pushed m (plains (product_sign P.Divide ∷ ks)) Multipliers κ
    (AFactor ∷ Multipliers ∷ []) (λ t. Scales P.Divide t.0 t.1.0) refl le
multiplier_reads m P.Mod ks κ le = pushed m (plains (product_sign P.Mod ∷ ks)) Multipliers κ
    (AFactor ∷ Multipliers ∷ []) (λ t. Scales P.Mod t.0 t.1.0) refl le

summand_reads : (m : ℕ) (op : SumOperator) (place : Place) (ks : List Lexeme) (κ : List Symbol) → nestings κ ≤ m
    → reads m (plains (sum_sign op place ∷ ks)) (Summands ∷ κ) ≡ on_read
    (λ y. (Adds op place (term_tree y.0 y.1.0) y.1.1.0, y.1.1.1)) (reads m (plains ks) (term (Summands ∷ κ)))
summand_reads m O.Plus place ks κ le = pushed m (plains (sum_sign O.Plus place ∷ ks)) Summands κ (term (Summands ∷ []))
    (λ t. Adds O.Plus place (term_tree t.0 t.1.0) t.1.1.0) refl le
summand_reads m O.Minus place ks κ le = pushed m (plains (sum_sign O.Minus place ∷ ks)) Summands κ
    (term (Summands ∷ [])) (λ t. Adds O.Minus place (term_tree t.0 t.1.0) t.1.1.0) refl le

compared_reads : (m : ℕ) (op : Comparator) (ks : List Lexeme) (κ : List Symbol) → nestings κ ≤ m
    → reads m (plains (comparator_text op ∷ ks)) (AComparison ∷ κ) ≡ on_read
    (λ y. (Compares op (sum_tree y.0 y.1.0 y.1.1.0), y.1.1.1)) (reads m (plains ks) (sum κ))
compared_reads m C.Equal ks κ le = pushed m (plains (comparator_text C.Equal ∷ ks)) AComparison κ (sum [])
    (λ t. Compares C.Equal (sum_tree t.0 t.1.0 t.1.1.0)) refl le
compared_reads m C.NotEqual ks κ le = pushed m (plains (comparator_text C.NotEqual ∷ ks)) AComparison κ (sum [])
    (λ t. Compares C.NotEqual (sum_tree t.0 t.1.0 t.1.1.0)) refl le
compared_reads m C.Less ks κ le = pushed m (plains (comparator_text C.Less ∷ ks)) AComparison κ (sum [])
    (λ t. Compares C.Less (sum_tree t.0 t.1.0 t.1.1.0)) refl le
compared_reads m C.LessEqual ks κ le = pushed m (plains (comparator_text C.LessEqual ∷ ks)) AComparison κ (sum [])
    (λ t. Compares C.LessEqual (sum_tree t.0 t.1.0 t.1.1.0)) refl le
compared_reads m C.Greater ks κ le = pushed m (plains (comparator_text C.Greater ∷ ks)) AComparison κ (sum [])
    (λ t. Compares C.Greater (sum_tree t.0 t.1.0 t.1.1.0)) refl le
compared_reads m C.GreaterEqual ks κ le = pushed m (plains (comparator_text C.GreaterEqual ∷ ks)) AComparison κ
    (sum []) (λ t. Compares C.GreaterEqual (sum_tree t.0 t.1.0 t.1.1.0)) refl le

truth_reads : (m : ℕ) (value : Bool) (place : Place) (ks : List Lexeme) (κ : List Symbol) → nestings κ ≤ m
    → reads m (plains (bool_lexeme value place ∷ ks)) (AFactor ∷ κ) ≡ on_read
    (λ y. (Truthful (record { value = value; place = place }), y)) (reads m (plains ks) κ)
truth_reads m true place ks κ le = pushed m (plains (bool_lexeme true place ∷ ks)) AFactor κ []
    (λ _. Truthful (record { value = true; place = place })) refl le
truth_reads m false place ks κ le = pushed m (plains (bool_lexeme false place ∷ ks)) AFactor κ []
    (λ _. Truthful (record { value = false; place = place })) refl le

mutual
  pub factor_reads : (m : ℕ) (f : FactorTree) → FactorReads m f
  factor_reads m (Constant n) ks κ le h = pushed m (plains (Numbered n ∷ ks)) AFactor κ [] (λ _. Constant n) refl
      (omega arith)
  factor_reads m (Truthful t) ks κ le h = truth_reads m t.value t.place ks κ (omega arith)
  factor_reads m (Reads name index) ks κ le h =
      rw (
        pushed m (plains (Named name ∷ index_text index ks)) AFactor κ (AnIndex ∷ []) (λ t. Reads name t.0) refl
            (omega arith),
        index_reads m index ks κ le h,
      ) (simp on_reads)
  factor_reads m (Group place (AnyOf (AllOf (Relates (Total (Product f fs) ts) c) rs) cs)) ks κ le h =
      rw (
        pushed m
            (plains (MarkAt S.OpenParen place ∷ factor_text f
            (multipliers_text fs (summands_text ts
            (comparison_text c (relations_text rs (conjunctions_text cs (Mark S.CloseParen ∷ ks)))))))) AFactor κ
            (expression (AMark S.CloseParen ∷ Closed ∷ [])) (λ t. Group place (expression_in t)) refl (omega arith),
        expression_parts m f fs ts c rs cs (Mark S.CloseParen ∷ ks) (AMark S.CloseParen ∷ Closed ∷ κ)
            (factor_reads m f) (multipliers_read m fs) (summands_read m ts) (comparison_reads m c)
            (relations_read m rs) (conjunctions_read m cs) (omega arith) ends_at_close_paren,
        mark_reads m S.CloseParen ks (Closed ∷ κ) (omega arith),
        closed_reads m ks κ,
      ) (simp on_reads)
  factor_reads m (Minus place f) ks κ le h =
      rw (
        pushed m (plains (MarkAt S.Minus place ∷ factor_text f ks)) AFactor κ (AFactor ∷ Closed ∷ [])
            (λ t. Minus place t.0) refl (omega arith),
        factor_reads m f ks (Closed ∷ κ) (omega arith) h,
        closed_reads m ks κ,
      ) (simp on_reads)
  factor_reads m (Not place f) ks κ le h =
      rw (
        pushed m (plains (WordAt K.Not place ∷ factor_text f ks)) AFactor κ (AFactor ∷ Closed ∷ [])
            (λ t. Not place t.0) refl (omega arith),
        factor_reads m f ks (Closed ∷ κ) (omega arith) h,
        closed_reads m ks κ,
      ) (simp on_reads)

  pub index_reads : (m : ℕ) (i : IndexTree) (ks : List Lexeme) (κ : List Symbol) → index_nesting i + nestings κ ≤ m
      → EndsFactor (lexeme_at (plains ks)) → reads m (plains (index_text i ks)) (AnIndex ∷ κ) ≡ on_read (λ y. (i, y))
      (reads m (plains ks) κ)
  index_reads m NoIndex ks κ le h = skipped m (plains ks) AnIndex κ NoIndex h.no_index
  index_reads m (At (AnyOf (AllOf (Relates (Total (Product f fs) ts) c) rs) cs)) ks κ le h =
      rw (
        pushed m
            (plains (Mark S.OpenBracket ∷ factor_text f
            (multipliers_text fs (summands_text ts
            (comparison_text c (relations_text rs (conjunctions_text cs (Mark S.CloseBracket ∷ ks)))))))) AnIndex κ
            (expression (AMark S.CloseBracket ∷ Closed ∷ [])) (λ t. At (expression_in t)) refl (omega arith),
        expression_parts m f fs ts c rs cs (Mark S.CloseBracket ∷ ks) (AMark S.CloseBracket ∷ Closed ∷ κ)
            (factor_reads m f) (multipliers_read m fs) (summands_read m ts) (comparison_reads m c)
            (relations_read m rs) (conjunctions_read m cs) (omega arith) ends_at_close_bracket,
        mark_reads m S.CloseBracket ks (Closed ∷ κ) (omega arith),
        closed_reads m ks κ,
      ) (simp on_reads)

  pub multipliers_read : (m : ℕ) (fs : MultiplierTrees) → MultipliersRead m fs
  multipliers_read m NoMultipliers ks κ le h = skipped m (plains ks) Multipliers κ NoMultipliers h.no_multiplier
  multipliers_read m (Scales op f fs) ks κ le h =
      rw (
        multiplier_reads m op (factor_text f (multipliers_text fs ks)) κ (omega arith),
        term_parts m f fs ks κ (factor_reads m f) (multipliers_read m fs) le h,
      ) (simp on_reads)

  pub summands_read : (m : ℕ) (ts : SummandTrees) → SummandsRead m ts
  summands_read m NoSummands ks κ le h = skipped m (plains ks) Summands κ NoSummands h.no_summand
  summands_read m (Adds op place (Product f fs) ts) ks κ le h =
      rw (
        summand_reads m op place (factor_text f (multipliers_text fs (summands_text ts ks))) κ (omega arith),
        sum_parts m f fs ts ks κ (factor_reads m f) (multipliers_read m fs) (summands_read m ts) le h,
      ) (simp on_reads)

  pub comparison_reads : (m : ℕ) (c : ComparisonTree) → ComparisonReads m c
  comparison_reads m NoComparison ks κ le h = skipped m (plains ks) AComparison κ NoComparison h.no_comparison
  comparison_reads m (Compares op (Total (Product f fs) ts)) ks κ le h =
      rw (
        compared_reads m op (factor_text f (multipliers_text fs (summands_text ts ks))) κ (omega arith),
        sum_parts m f fs ts ks κ (factor_reads m f) (multipliers_read m fs) (summands_read m ts) le h.sum,
      ) (simp on_reads)

  pub relations_read : (m : ℕ) (rs : RelationTrees) → RelationsRead m rs
  relations_read m NoRelations ks κ le h = skipped m (plains ks) Relations κ NoRelations h.no_relation
  relations_read m (AndAlso (Relates (Total (Product f fs) ts) c) rs) ks κ le h =
      rw (
        pushed m
            (plains (Word K.And ∷ factor_text f
            (multipliers_text fs (summands_text ts (comparison_text c (relations_text rs ks)))))) Relations κ
            (relation (Relations ∷ [])) (λ t. AndAlso (relation_tree t.0 t.1.0 t.1.1.0 t.1.1.1.0) t.1.1.1.1.0) refl
            (omega arith),
        conjunction_parts m f fs ts c rs ks κ (factor_reads m f) (multipliers_read m fs) (summands_read m ts)
            (comparison_reads m c) (relations_read m rs) le h,
      ) (simp on_reads)

  pub conjunctions_read : (m : ℕ) (cs : ConjunctionTrees) → ConjunctionsRead m cs
  conjunctions_read m NoConjunctions ks κ le h = skipped m (plains ks) Conjunctions κ NoConjunctions h.no_conjunction
  conjunctions_read m (OrElse (AllOf (Relates (Total (Product f fs) ts) c) rs) cs) ks κ le h =
      rw (
        pushed m
            (plains (Word K.Or ∷ factor_text f
            (multipliers_text fs (summands_text ts
            (comparison_text c (relations_text rs (conjunctions_text cs (ks)))))))) Conjunctions κ
            (conjunction (Conjunctions ∷ []))
            (λ t. OrElse (conjunction_tree t.0 t.1.0 t.1.1.0 t.1.1.1.0 t.1.1.1.1.0) t.1.1.1.1.1.0) refl (omega arith),
        expression_parts m f fs ts c rs cs ks κ (factor_reads m f) (multipliers_read m fs) (summands_read m ts)
            (comparison_reads m c) (relations_read m rs) (conjunctions_read m cs) le h,
      ) (simp on_reads)

-- the parts of an expression, before other trees
abbrev pub expressed : {A : Type 0} → ExpressionTree → A → ExpressionParts A
expressed (AnyOf (AllOf (Relates (Total (Product f fs) ts) c) rs) cs) y = (f, (fs, (ts, (c, (rs, (cs, y))))))

pub expression_reads : (m : ℕ) (e : ExpressionTree) (ks : List Lexeme) (κ : List Symbol)
    → expression_nesting e + nestings κ ≤ m → EndsExpression (lexeme_at (plains ks))
    → reads m (plains (expression_text e ks)) (expression κ) ≡ on_read (λ y. expressed e y) (reads m (plains ks) κ)
expression_reads m (AnyOf (AllOf (Relates (Total (Product f fs) ts) c) rs) cs) ks κ le h =
    expression_parts m f fs ts c rs cs ks κ (factor_reads m f) (multipliers_read m fs) (summands_read m ts)
    (comparison_reads m c) (relations_read m rs) (conjunctions_read m cs) le h

pub expressed_in : {A : Type 0} (e : ExpressionTree) (y : A) → expression_in (expressed e y) ≡ e
expressed_in (AnyOf (AllOf (Relates (Total (Product f fs) ts) c) rs) cs) y = refl
