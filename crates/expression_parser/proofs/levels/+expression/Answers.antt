use Rattle.std.proofs.Common.{[], ◌∷◌, arith, rules, refl, ap, sym, ◌≡◌, ◌∙◌}
use Rattle.std.proofs.lemmas.Result.{IfErr-weaker}
use Rattle.scanner.specs.declared.token.Sign.TheVariants as S
use Rattle.syntax.specs.Lexeme.{Mark}
use Rattle.grammar.specs.Machine.{AMark, term, sum, relation, conjunction, expression}
use Rattle.grammar.specs.Reading.{lexeme_at}
use Rattle.grammar.proofs.Joins.{here, then1, fail1, then2, fail2, then3, fail3, then4, fail4, fail6}
use Rattle.token_cursor.proofs.Small.{exit_fails, exit_memory}
use Rattle.token_cursor.specs.Openers.{start_lexeme}
use Rattle.syntax.specs.View.{factor_of, term_of, sum_of, relation_of, conjunction_of, expression_of}
use Rattle.syntax.proofs.Built.{product_made, total_made, comparison_made, all_of_made, any_of_made}
use Rattle.token_cursor.specs.Ahead.{ahead}
use Rattle.expression_parser.proofs.Chains.{multipliers_pass, multipliers_go_on, multipliers_as, summands_pass}
use Rattle.expression_parser.proofs.Chains.{summands_go_on, summands_as, relations_pass, relations_go_on, relations_as}
use Rattle.expression_parser.proofs.Chains.{conjunctions_pass, conjunctions_go_on, conjunctions_as}
use Rattle.expression_parser.proofs.Chains.{multipliers_fail, multipliers_fail_behind, multipliers_fail_later}
use Rattle.expression_parser.proofs.Chains.{summands_fail, summands_fail_behind, summands_fail_later}
use Rattle.expression_parser.proofs.Chains.{relations_fail, relations_fail_behind, relations_fail_later}
use Rattle.expression_parser.proofs.Chains.{conjunctions_fail, conjunctions_fail_behind, conjunctions_fail_later}
use Rattle.expression_parser.proofs.Factors.{paren_passes, minus_passes, not_passes, index_passes, enclosed_fails}
use Rattle.expression_parser.proofs.Factors.{enclosed_passes}
use Rattle.expression_parser.proofs.Factors.{paren_fails, minus_fails, not_fails, name_fails, index_fails}
use Rattle.expression_parser.proofs.Joined.{term_ok, sum_ok, relation_joined, relation_ok, conjunction_joined}
use Rattle.expression_parser.proofs.Joined.{conjunction_ok, expression_ok, term_alone, sum_alone, expression_of_sum}
use Rattle.expression_parser.proofs.Joined.{no_and, no_or, relations_absent, conjunctions_absent, chain_ends}
use Rattle.expression_parser.proofs.Joined.{comparison_absent, comparison_passes, comparison_fails}
use Rattle.expression_parser.proofs.levels.+expression.Goals as goal

pub expression_from-returns-clause-ok : goal.expression_from-returns-clause-ok
expression_from-returns-clause-ok t c =
    conjunctions_as (any_of_made c.in_ok-new.field-0 _ _ _ c.in_ok-new.ensures.ok)
    (conjunctions_pass (conjunction_of c.in-Ok.second) c.requires c.if-not-eat_keyword.ensures
    c.in-Ok.ensures.ok c.in-Ok-conjunctions.ensures.ok)

pub conjunctions-conjunctions-preserved : goal.conjunctions-conjunctions-preserved
conjunctions-conjunctions-preserved t c = record {
  read = conjunctions_go_on _ _ c.in_ok-conjunction.conjunction c.in_ok-push.ensures.items c.requires
      c.conjunctions.invariant.read c.conjunctions-test.ensures c.in_ok-conjunction.ensures.ok;
  within = omega (
    arith,
    c.conjunctions.invariant.within,
    c.in_ok-conjunction.ensures.shorter,
    c.conjunctions-test.ensures.shorter,
  );
}

pub conjunction_from-returns-clause-ok : goal.conjunction_from-returns-clause-ok
conjunction_from-returns-clause-ok t c =
    relations_as (all_of_made c.in_ok-new.field-0 _ _ _ c.in_ok-new.ensures.ok)
    (relations_pass (relation_of c.in-Ok.second) c.requires c.if-not-eat_keyword.ensures
    c.in-Ok.ensures.ok c.in-Ok-relations.ensures.ok)

pub relations-relations-preserved : goal.relations-relations-preserved
relations-relations-preserved t c = record {
  read = relations_go_on _ _ c.in_ok-relation.relation c.in_ok-push.ensures.items c.requires
      c.relations.invariant.read
      c.relations-test.ensures c.in_ok-relation.ensures.ok;
  within = omega (
    arith,
    c.relations.invariant.within,
    c.in_ok-relation.ensures.shorter,
    c.relations-test.ensures.shorter,
  );
}

pub total-returns-clause-ok : goal.total-returns-clause-ok
total-returns-clause-ok t c =
    summands_as (total_made c.in_ok-new.field-0 _ _ _ c.in_ok-new.ensures.ok)
    (summands_pass (term_of c.in-Ok.term) c.requires.depth c.requires.sign c.pass.ensures.rest
    c.in-Ok.ensures.ok c.in-Ok-summands.ensures.ok)

pub summands-summands-preserved : goal.summands-summands-preserved
summands-summands-preserved t c = record {
  read = summands_go_on _ _ (record {
    operator = c.in-Some.operator;
    place = c.in-Some.place;
    term =
        c.in_ok-term.term;
  }) c.in_ok-push.ensures.items c.requires c.summands.invariant.read c.in-Some.ensures.reply
      c.pass.ensures.rest c.in_ok-term.ensures.ok;
  within = omega (arith, c.summands.invariant.within, c.in_ok-term.ensures.shorter, c.pass.ensures.shorter);
}

pub product-returns-clause-ok : goal.product-returns-clause-ok
product-returns-clause-ok t c =
    multipliers_as (product_made c.in_ok-new.field-0 _ _ _ c.in_ok-new.ensures.ok)
    (multipliers_pass c.requires.depth c.requires.operator c.pass.ensures.rest c.in-Ok.ensures.ok
    c.in-Ok-multipliers.ensures.ok)

pub multipliers-multipliers-preserved : goal.multipliers-multipliers-preserved
multipliers-multipliers-preserved t c = record {
  read = multipliers_go_on _ _ (record { operator = c.in-Some.operator; factor = c.in_ok-factor.factor })
      c.in_ok-push.ensures.items c.requires c.multipliers.invariant.read c.in-Some.ensures.reply c.pass.ensures.rest
      c.in_ok-factor.ensures.ok;
  within = omega (arith, c.multipliers.invariant.within, c.in_ok-factor.ensures.shorter, c.pass.ensures.shorter);
}

pub factor-returns-in_ok-new-in-Paren-clause-ok : goal.factor-returns-in_ok-new-in-Paren-clause-ok
factor-returns-in_ok-new-in-Paren-clause-ok t c =
    rw (c.in_ok-new-in-Paren.ensures.ok)
    (paren_passes c.peek-token.result.place (expression_of c.in_ok-expression-in-Paren.expression)
    c.in_ok-inner-in-Paren.ensures.ok.0 c.in_ok-inner-in-Paren.ensures.ok.1
    (sym c.peek-token.ensures.lexeme ∙ c.in-Some.ensures c.peek-token.result.text.now
    c.peek-token.result.place ∙ ap (λ s. start_lexeme s c.peek-token.result.text.now c.peek-token.result.place)
    c.in-Paren.is) c.in_ok-inner-in-Paren.ensures.rest c.in_ok-expression-in-Paren.ensures.ok)

pub factor-returns-in_ok-operand-in-Minus-clause-ok : goal.factor-returns-in_ok-operand-in-Minus-clause-ok
factor-returns-in_ok-operand-in-Minus-clause-ok t c =
    minus_passes c.peek-token.result.place (factor_of c.in_ok-operand-in-Minus.field-0.value)
    c.in_ok-inner-in-Minus.ensures.ok.0 c.in_ok-inner-in-Minus.ensures.ok.1
    (sym c.peek-token.ensures.lexeme ∙ c.in-Some.ensures c.peek-token.result.text.now
    c.peek-token.result.place ∙ ap (λ s. start_lexeme s c.peek-token.result.text.now c.peek-token.result.place)
    c.in-Minus.is) c.in_ok-inner-in-Minus.ensures.rest c.in_ok-operand-in-Minus.ensures.ok

pub factor-returns-in_ok-operand-in-Not-clause-ok : goal.factor-returns-in_ok-operand-in-Not-clause-ok
factor-returns-in_ok-operand-in-Not-clause-ok t c =
    not_passes c.peek-token.result.place (factor_of c.in_ok-operand-in-Not.field-0.value)
    c.in_ok-inner-in-Not.ensures.ok.0 c.in_ok-inner-in-Not.ensures.ok.1
    (sym c.peek-token.ensures.lexeme ∙ c.in-Some.ensures c.peek-token.result.text.now
    c.peek-token.result.place ∙ ap (λ s. start_lexeme s c.peek-token.result.text.now c.peek-token.result.place)
    c.in-Not.is) c.in_ok-inner-in-Not.ensures.rest c.in_ok-operand-in-Not.ensures.ok

pub variable-returns-clause-ok : goal.variable-returns-clause-ok
variable-returns-clause-ok t c =
    let h : lexeme_at (ahead c.args.parser.now) ≡ Mark S.OpenBracket = first_of (search rules, grind arith) in
    rw (c.in_ok-element.ensures.ok) (index_passes (expression_of c.in_ok-index.index) c.in_ok-inner.ensures.ok.0
    c.in_ok-inner.ensures.ok.1 h c.in_ok-inner.ensures.rest c.in_ok-index.ensures.ok)

pub expression-returns-in_err-sum-clause-err : goal.expression-returns-in_err-sum-clause-err
expression-returns-in_err-sum-clause-err t c =
    exit_fails c.from_residual.result c.from_residual.ensures.1
    (fail3 c.in_err-sum.ensures.err (here {σ = expression []}) (omega arith))

pub expression-returns-in_err-relation-clause-err : goal.expression-returns-in_err-relation-clause-err
expression-returns-in_err-relation-clause-err t c =
    exit_fails c.from_residual-in_err-relation.result c.from_residual-in_err-relation.ensures.1
    (fail1 c.in_err-relation.ensures.err (then3 c.in_ok-sum.ensures.ok (here {σ = expression []}) (omega arith))
    (omega arith))

pub expression-returns-in_err-conjunction-clause-err : goal.expression-returns-in_err-conjunction-clause-err
expression-returns-in_err-conjunction-clause-err t c =
    exit_fails c.from_residual-in_err-conjunction.result c.from_residual-in_err-conjunction.ensures.1
    (fail1 c.in_err-conjunction.ensures.err (then1 c.in_ok-relation.ensures.ok
    (then3 c.in_ok-sum.ensures.ok (here {σ = expression []}) (omega arith)) (omega arith)) (omega arith))

pub expression-returns-clause-err : goal.expression-returns-clause-err
expression-returns-clause-err t c =
    IfErr-weaker c.expression_from.result _ _ (λ e f. fail1 f
    (then1 c.in_ok-conjunction.ensures.ok (then1 c.in_ok-relation.ensures.ok
    (then3 c.in_ok-sum.ensures.ok (here {σ = expression []}) (omega arith)) (omega arith)) (omega arith))
    (omega arith))
    c.expression_from.ensures.err

pub expression_before-returns-in_err-expression-clause-err : goal.expression_before-returns-in_err-expression-clause-err
expression_before-returns-in_err-expression-clause-err t c =
    exit_fails c.from_residual.result c.from_residual.ensures.1
    (fail6 c.in_err-expression.ensures.err (here {σ = expression (AMark c.args.close ∷ [])}) (omega arith))

pub expression_before-returns-in-Err-clause-err :
    goal.expression_before-returns-in-Err-clause-err
expression_before-returns-in-Err-clause-err t c =
    exit_fails c.refused.result c.refused.ensures
    (enclosed_fails (expression_of c.in_ok-expression.expression) c.in_ok-expression.ensures.ok
    c.in-Err.ensures.err)

pub expression_from-returns-in-Err-clause-err : goal.expression_from-returns-in-Err-clause-err
expression_from-returns-in-Err-clause-err t c =
    exit_fails c.refused.result c.refused.ensures
    (conjunctions_fail c.requires c.if-not-eat_keyword.ensures c.in-Err.ensures.err)

pub expression_from-returns-in-Err-conjunctions-clause-err : goal.expression_from-returns-in-Err-conjunctions-clause-err
expression_from-returns-in-Err-conjunctions-clause-err t c =
    exit_fails c.refused-in-Err-conjunctions.result c.refused-in-Err-conjunctions.ensures
    (conjunctions_fail_behind (conjunction_of c.in-Ok.second) c.requires c.if-not-eat_keyword.ensures
    c.in-Ok.ensures.ok c.in-Err-conjunctions.ensures.err)

pub expression_from-returns-in_err-new-clause-err : goal.expression_from-returns-in_err-new-clause-err
expression_from-returns-in_err-new-clause-err t c =
    exit_memory _ _ _ c.from_residual.result c.from_residual.ensures.1

pub conjunctions-returns-in_err-conjunction-clause-err : goal.conjunctions-returns-in_err-conjunction-clause-err
conjunctions-returns-in_err-conjunction-clause-err t c =
    exit_fails c.from_residual.result c.from_residual.ensures.1
    (conjunctions_fail_later c.requires c.conjunctions.invariant.read c.conjunctions-test.ensures
    c.in_err-conjunction.ensures.err)

pub conjunctions-returns-in_err-push-clause-err : goal.conjunctions-returns-in_err-push-clause-err
conjunctions-returns-in_err-push-clause-err t c =
    exit_memory _ _ _ c.from_residual-in_err-push.result c.from_residual-in_err-push.ensures.1

pub conjunction_from-returns-in-Err-clause-err : goal.conjunction_from-returns-in-Err-clause-err
conjunction_from-returns-in-Err-clause-err t c =
    exit_fails c.refused.result c.refused.ensures
    (relations_fail c.requires c.if-not-eat_keyword.ensures c.in-Err.ensures.err)

pub conjunction_from-returns-in-Err-relations-clause-err : goal.conjunction_from-returns-in-Err-relations-clause-err
conjunction_from-returns-in-Err-relations-clause-err t c =
    exit_fails c.refused-in-Err-relations.result c.refused-in-Err-relations.ensures
    (relations_fail_behind (relation_of c.in-Ok.second) c.requires c.if-not-eat_keyword.ensures
    c.in-Ok.ensures.ok c.in-Err-relations.ensures.err)

pub conjunction_from-returns-in_err-new-clause-err : goal.conjunction_from-returns-in_err-new-clause-err
conjunction_from-returns-in_err-new-clause-err t c =
    exit_memory _ _ _ c.from_residual.result c.from_residual.ensures.1

pub relations-returns-in_err-relation-clause-err : goal.relations-returns-in_err-relation-clause-err
relations-returns-in_err-relation-clause-err t c =
    exit_fails c.from_residual.result c.from_residual.ensures.1
    (relations_fail_later c.requires c.relations.invariant.read c.relations-test.ensures
    c.in_err-relation.ensures.err)

pub relations-returns-in_err-push-clause-err : goal.relations-returns-in_err-push-clause-err
relations-returns-in_err-push-clause-err t c =
    exit_memory _ _ _ c.from_residual-in_err-push.result c.from_residual-in_err-push.ensures.1

pub conjunction-returns-in_err-first-clause-err : goal.conjunction-returns-in_err-first-clause-err
conjunction-returns-in_err-first-clause-err t c =
    exit_fails c.from_residual.result c.from_residual.ensures.1
    (fail4 c.in_err-first.ensures.err (here {σ = conjunction []}) (omega arith))

pub conjunction-returns-clause-err : goal.conjunction-returns-clause-err
conjunction-returns-clause-err t c =
    IfErr-weaker c.conjunction_from.result _ _ (λ e f. fail1 f
    (then4 c.in_ok-first.ensures.ok (here {σ = conjunction []}) (omega arith)) (omega arith))
    c.conjunction_from.ensures.err

pub relation-returns-in_err-left-clause-err : goal.relation-returns-in_err-left-clause-err
relation-returns-in_err-left-clause-err t c =
    exit_fails c.from_residual.result c.from_residual.ensures.1
    (fail3 c.in_err-left.ensures.err (here {σ = relation []}) (omega arith))

pub relation-returns-clause-err : goal.relation-returns-clause-err
relation-returns-clause-err t c =
    IfErr-weaker c.relation_from.result _ _ (λ e f. fail1 f
    (then3 c.in_ok-left.ensures.ok (here {σ = relation []}) (omega arith)) (omega arith))
    c.relation_from.ensures.err

pub relation_from-returns-in_err-new-clause-err : goal.relation_from-returns-in_err-new-clause-err
relation_from-returns-in_err-new-clause-err t c =
    exit_memory _ _ _ c.from_residual.result c.from_residual.ensures.1

pub sum-returns-in_err-first-clause-err : goal.sum-returns-in_err-first-clause-err
sum-returns-in_err-first-clause-err t c =
    exit_fails c.from_residual.result c.from_residual.ensures.1
    (fail2 c.in_err-first.ensures.err (here {σ = sum []}) (omega arith))

pub sum-returns-in-Some-clause-err : goal.sum-returns-in-Some-clause-err
sum-returns-in-Some-clause-err t c =
    IfErr-weaker c.total.result _ _ (λ e f. fail1 f
    (then2 c.in_ok-first.ensures.ok (here {σ = sum []}) (omega arith)) (omega arith))
    c.total.ensures.err

pub term-returns-in_err-first-clause-err : goal.term-returns-in_err-first-clause-err
term-returns-in_err-first-clause-err t c =
    exit_fails c.from_residual.result c.from_residual.ensures.1
    (fail1 c.in_err-first.ensures.err (here {σ = term []}) (omega arith))

pub term-returns-in-Some-clause-err : goal.term-returns-in-Some-clause-err
term-returns-in-Some-clause-err t c =
    IfErr-weaker c.product.result _ _ (λ e f. fail1 f
    (then1 c.in_ok-first.ensures.ok (here {σ = term []}) (omega arith)) (omega arith))
    c.product.ensures.err

pub total-returns-in-Err-clause-err : goal.total-returns-in-Err-clause-err
total-returns-in-Err-clause-err t c =
    exit_fails c.refused.result c.refused.ensures
    (summands_fail c.requires.depth c.requires.sign c.pass.ensures.rest c.in-Err.ensures.err)

pub total-returns-in-Err-summands-clause-err : goal.total-returns-in-Err-summands-clause-err
total-returns-in-Err-summands-clause-err t c =
    exit_fails c.refused-in-Err-summands.result c.refused-in-Err-summands.ensures
    (summands_fail_behind (term_of c.in-Ok.term) c.requires.depth c.requires.sign c.pass.ensures.rest
    c.in-Ok.ensures.ok c.in-Err-summands.ensures.err)

pub total-returns-in_err-new-clause-err : goal.total-returns-in_err-new-clause-err
total-returns-in_err-new-clause-err t c =
    exit_memory _ _ _ c.from_residual.result c.from_residual.ensures.1

pub summands-returns-in_err-term-clause-err : goal.summands-returns-in_err-term-clause-err
summands-returns-in_err-term-clause-err t c =
    exit_fails c.from_residual.result c.from_residual.ensures.1
    (summands_fail_later c.requires c.summands.invariant.read c.in-Some.ensures.reply
    c.pass.ensures.rest c.in_err-term.ensures.err)

pub summands-returns-in_err-push-clause-err : goal.summands-returns-in_err-push-clause-err
summands-returns-in_err-push-clause-err t c =
    exit_memory _ _ _ c.from_residual-in_err-push.result c.from_residual-in_err-push.ensures.1

pub product-returns-in-Err-clause-err : goal.product-returns-in-Err-clause-err
product-returns-in-Err-clause-err t c =
    exit_fails c.refused.result c.refused.ensures
    (multipliers_fail c.requires.depth c.requires.operator c.pass.ensures.rest
    c.in-Err.ensures.err)

pub product-returns-in-Err-multipliers-clause-err : goal.product-returns-in-Err-multipliers-clause-err
product-returns-in-Err-multipliers-clause-err t c =
    exit_fails c.refused-in-Err-multipliers.result c.refused-in-Err-multipliers.ensures
    (multipliers_fail_behind c.requires.depth c.requires.operator c.pass.ensures.rest
    c.in-Ok.ensures.ok c.in-Err-multipliers.ensures.err)

pub product-returns-in_err-new-clause-err : goal.product-returns-in_err-new-clause-err
product-returns-in_err-new-clause-err t c =
    exit_memory _ _ _ c.from_residual.result c.from_residual.ensures.1

pub multipliers-returns-in_err-factor-clause-err : goal.multipliers-returns-in_err-factor-clause-err
multipliers-returns-in_err-factor-clause-err t c =
    exit_fails c.from_residual.result c.from_residual.ensures.1
    (multipliers_fail_later c.requires c.multipliers.invariant.read c.in-Some.ensures.reply
    c.pass.ensures.rest c.in_err-factor.ensures.err)

pub multipliers-returns-in_err-push-clause-err : goal.multipliers-returns-in_err-push-clause-err
multipliers-returns-in_err-push-clause-err t c =
    exit_memory _ _ _ c.from_residual-in_err-push.result c.from_residual-in_err-push.ensures.1

pub operand-returns-in_err-factor-clause-err : goal.operand-returns-in_err-factor-clause-err
operand-returns-in_err-factor-clause-err t c =
    exit_fails c.from_residual.result c.from_residual.ensures.1
    (c.in_err-factor.ensures.err)

pub operand-returns-in_err-new-clause-err : goal.operand-returns-in_err-new-clause-err
operand-returns-in_err-new-clause-err t c =
    exit_memory _ _ _ c.from_residual-in_err-new.result c.from_residual-in_err-new.ensures.1

pub factor-returns-in_err-expression-in-Paren-clause-err : goal.factor-returns-in_err-expression-in-Paren-clause-err
factor-returns-in_err-expression-in-Paren-clause-err t c =
    exit_fails c.from_residual-in_err-expression-in-Paren.result
    c.from_residual-in_err-expression-in-Paren.ensures.1
    (paren_fails c.peek-token.result.place c.in_ok-inner-in-Paren.ensures.ok.0
    c.in_ok-inner-in-Paren.ensures.ok.1 (sym c.peek-token.ensures.lexeme ∙ c.in-Some.ensures
    c.peek-token.result.text.now
    c.peek-token.result.place ∙ ap (λ s. start_lexeme s c.peek-token.result.text.now c.peek-token.result.place)
    c.in-Paren.is) c.in_ok-inner-in-Paren.ensures.rest c.in_err-expression-in-Paren.ensures.err)

pub factor-returns-in_err-operand-in-Minus-clause-err : goal.factor-returns-in_err-operand-in-Minus-clause-err
factor-returns-in_err-operand-in-Minus-clause-err t c =
    exit_fails c.from_residual-in_err-operand-in-Minus.result c.from_residual-in_err-operand-in-Minus.ensures.1
    (minus_fails c.peek-token.result.place c.in_ok-inner-in-Minus.ensures.ok.0
    c.in_ok-inner-in-Minus.ensures.ok.1 (sym c.peek-token.ensures.lexeme ∙ c.in-Some.ensures
    c.peek-token.result.text.now
    c.peek-token.result.place ∙ ap (λ s. start_lexeme s c.peek-token.result.text.now c.peek-token.result.place)
    c.in-Minus.is) c.in_ok-inner-in-Minus.ensures.rest c.in_err-operand-in-Minus.ensures.err)

pub factor-returns-in_err-operand-in-Not-clause-err : goal.factor-returns-in_err-operand-in-Not-clause-err
factor-returns-in_err-operand-in-Not-clause-err t c =
    exit_fails c.from_residual-in_err-operand-in-Not.result c.from_residual-in_err-operand-in-Not.ensures.1
    (not_fails c.peek-token.result.place c.in_ok-inner-in-Not.ensures.ok.0
    c.in_ok-inner-in-Not.ensures.ok.1 (sym c.peek-token.ensures.lexeme ∙ c.in-Some.ensures
    c.peek-token.result.text.now
    c.peek-token.result.place ∙ ap (λ s. start_lexeme s c.peek-token.result.text.now c.peek-token.result.place)
    c.in-Not.is) c.in_ok-inner-in-Not.ensures.rest c.in_err-operand-in-Not.ensures.err)

pub factor-returns-in_err-new-in-Paren-clause-err : goal.factor-returns-in_err-new-in-Paren-clause-err
factor-returns-in_err-new-in-Paren-clause-err t c =
    exit_memory _ _ _ c.from_residual-in_err-new-in-Paren.result c.from_residual-in_err-new-in-Paren.ensures.1

pub factor-returns-in_err-variable-in-Name-clause-err : goal.factor-returns-in_err-variable-in-Name-clause-err
factor-returns-in_err-variable-in-Name-clause-err t c =
    exit_fails c.from_residual.result c.from_residual.ensures.1
    (name_fails _ c.requires (sym c.peek-token.ensures.lexeme ∙ c.in-Some.ensures c.peek-token.result.text.now
    c.peek-token.result.place ∙ ap (λ s. start_lexeme s c.peek-token.result.text.now c.peek-token.result.place)
    c.in-Name.is) c.pass-in-Name.ensures.rest c.in_err-variable-in-Name.ensures.err)

pub variable-returns-in_err-element-clause-err : goal.variable-returns-in_err-element-clause-err
variable-returns-in_err-element-clause-err t c =
    exit_memory _ _ _ c.from_residual-in_err-element.result c.from_residual-in_err-element.ensures.1

pub variable-returns-in_err-index-clause-err : goal.variable-returns-in_err-index-clause-err
variable-returns-in_err-index-clause-err t c =
    let h : lexeme_at (ahead c.args.parser.now) ≡ Mark S.OpenBracket = first_of (search rules, grind arith) in
    exit_fails c.from_residual-in_err-index.result c.from_residual-in_err-index.ensures.1
    (index_fails c.in_ok-inner.ensures.ok.0 c.in_ok-inner.ensures.ok.1 h c.in_ok-inner.ensures.rest
    c.in_err-index.ensures.err)

pub expression-returns-then-not-relates-clause-ok : goal.expression-returns-then-not-relates-clause-ok
expression-returns-then-not-relates-clause-ok t c =
    expression_of_sum c.expression_of_sum.ensures c.in_ok-sum.ensures.ok (c.if-not-relates.ensures refl)

pub expression-returns-clause-ok : goal.expression-returns-clause-ok
expression-returns-clause-ok t c =
    expression_ok (ahead c.expression_from.new.parser) (conjunction_of c.in_ok-conjunction.conjunction)
    c.expression_from.result
    (conjunction_joined (conjunction_of c.in_ok-conjunction.conjunction) c.in_ok-conjunction.ensures.front
    (relation_joined (relation_of c.in_ok-relation.relation) c.in_ok-relation.ensures.front c.in_ok-sum.ensures.ok
    c.in_ok-relation.ensures.ok) c.in_ok-conjunction.ensures.ok)
    c.expression_from.ensures.front c.expression_from.ensures.ok

pub expression_from-returns-then-not-eat_keyword-clause-ok :
    goal.expression_from-returns-then-not-eat_keyword-clause-ok
expression_from-returns-then-not-eat_keyword-clause-ok t c =
    conjunctions_absent c.expression_alone.ensures c.if-not-eat_keyword.ensures

pub conjunctions-returns-clause-ok : goal.conjunctions-returns-clause-ok
conjunctions-returns-clause-ok t c =
    chain_ends c.conjunctions.invariant.read (no_or _ c.conjunctions-test.ensures.first)
    c.conjunctions-test.ensures.same

pub conjunction-returns-clause-ok : goal.conjunction-returns-clause-ok
conjunction-returns-clause-ok t c =
    conjunction_ok (ahead c.conjunction_from.new.parser) (relation_of c.in_ok-first.first) c.conjunction_from.result c.in_ok-first.ensures.ok c.conjunction_from.ensures.front
    c.conjunction_from.ensures.ok

pub conjunction_from-returns-then-not-eat_keyword-clause-ok :
    goal.conjunction_from-returns-then-not-eat_keyword-clause-ok
conjunction_from-returns-then-not-eat_keyword-clause-ok t c =
    relations_absent c.conjunction_alone.ensures c.if-not-eat_keyword.ensures

pub relations-returns-clause-ok : goal.relations-returns-clause-ok
relations-returns-clause-ok t c =
    chain_ends c.relations.invariant.read (no_and _ c.relations-test.ensures.first) c.relations-test.ensures.same

pub relation-returns-clause-ok : goal.relation-returns-clause-ok
relation-returns-clause-ok t c =
    relation_ok (ahead c.relation_from.new.parser) (sum_of c.in_ok-left.left) c.relation_from.result c.in_ok-left.ensures.ok c.relation_from.ensures.front
    c.relation_from.ensures.ok

pub relation_from-returns-in_default-clause-ok : goal.relation_from-returns-in_default-clause-ok
relation_from-returns-in_default-clause-ok t c =
    comparison_absent c.relation_alone.ensures c.in_default.ensures.reply

pub relation_from-returns-in-Err-clause-err : goal.relation_from-returns-in-Err-clause-err
relation_from-returns-in-Err-clause-err t c =
    exit_fails c.refused.result c.refused.ensures
    (comparison_fails c.requires c.in-Some.ensures.reply c.pass.ensures.rest c.in-Err.ensures.err)

pub relation_from-returns-clause-ok : goal.relation_from-returns-clause-ok
relation_from-returns-clause-ok t c =
    comparison_passes (sum_of c.in-Ok.right) (comparison_made c.in_ok-new.field-0 _ _ _ c.in_ok-new.ensures.ok)
    c.requires c.in-Some.ensures.reply c.pass.ensures.rest c.in-Ok.ensures.ok

pub sum-returns-in-Some-clause-ok : goal.sum-returns-in-Some-clause-ok
sum-returns-in-Some-clause-ok t c =
    sum_ok (ahead c.total.new.parser) (term_of c.in_ok-first.first) c.total.result c.in_ok-first.ensures.ok c.total.ensures.front c.total.ensures.ok

pub sum-returns-in-None-clause-ok : goal.sum-returns-in-None-clause-ok
sum-returns-in-None-clause-ok t c =
    sum_alone c.sum_alone.ensures c.in_ok-first.ensures.ok c.in-None.ensures.reply

pub summands-returns-clause-ok : goal.summands-returns-clause-ok
summands-returns-clause-ok t c = chain_ends c.summands.invariant.read c.in_default.ensures.reply refl

pub term-returns-in-Some-clause-ok : goal.term-returns-in-Some-clause-ok
term-returns-in-Some-clause-ok t c =
    term_ok (ahead c.product.new.parser) (factor_of c.in_ok-first.first) c.product.result c.in_ok-first.ensures.ok c.product.ensures.front c.product.ensures.ok

pub term-returns-in-None-clause-ok : goal.term-returns-in-None-clause-ok
term-returns-in-None-clause-ok t c = term_alone c.in_ok-first.ensures.ok c.in-None.ensures.reply

pub multipliers-returns-clause-ok : goal.multipliers-returns-clause-ok
multipliers-returns-clause-ok t c = chain_ends c.multipliers.invariant.read c.in_default.ensures.reply refl

pub expression_before-returns-in-Ok-clause-ok : goal.expression_before-returns-in-Ok-clause-ok
expression_before-returns-in-Ok-clause-ok t c =
    enclosed_passes (expression_of c.in_ok-expression.expression) c.requires.depth c.in_ok-expression.ensures.ok
    c.in-Ok.ensures.ok
