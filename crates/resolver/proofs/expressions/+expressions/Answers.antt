use Rattle.std.proofs.Common.{◌&&◌, ◌∙◌, IfOk, refl, ap, sym, subst, append-nil}
use Rattle.program.specs.Trees.{Both}
use Rattle.program.specs.Views.{expression_of}
use Rattle.program.specs.declared.kinds.Operator.TheVariants.{And, Or}
use Rattle.program.specs.declared.kinds.ValueType.TheVariants.{Integer, Boolean}
use Rattle.syntax.specs.Tree.{AnyOf, OrElse, AllOf, AndAlso, NoIndex, Relates, Compares}
use Rattle.syntax.specs.View as v
use Rattle.syntax.specs.declared.expression.Conjunction.TheViews.{Conjunction::AllOf as AllOfMade}
use Rattle.syntax.specs.declared.expression.Product.{out-Product}
use Rattle.syntax.specs.declared.expression.Total.{out-Total}
use Rattle.types.specs.ExpressionFaults as f
use Rattle.types.specs.Expressions as x
use Rattle.types.specs.Scope.{meaning}
use Rattle.types.specs.Typing as t
use Rattle.resolver.specs.Clean.{is_clean, Says, IsFactor, IsTerm, IsSum, IsRelation, IsConjunction, IsTyped}
use Rattle.resolver.proofs.Chains.{next_link, last_link, both_made}
use Rattle.resolver.proofs.Cleanness.{clean_next, clean_past, clean_chain, lone, lone2, lone3, lone4, lone5}
use Rattle.resolver.proofs.Wanted.{factor_operand, term_operand, relation_operand, conjunction_operand}
use Rattle.resolver.proofs.Rows.{all_of_seen, any_of_seen, product_seen, total_seen}
use Rattle.resolver.proofs.expressions.+expressions.Goals as goal

pub product-loop-multiplier-preserved : goal.product-loop-multiplier-preserved
product-loop-multiplier-preserved n c = λ s h.
    let items = c.deref-multiplier-items.result.now in
    let tree = v.factor_of c.multiplier-item.result.factor in
    let made = c.in_ok-right.ensures s h in
    let before = c.loop-multiplier.invariant s h in (
      next_link (λ y ms. x.product s y (v.multipliers_in ms))
          (λ y m. Both (x.product_operator m.operator) y (x.factor s (v.factor_of m.factor))) (λ y m ms. refl) items
          c.loop-multiplier.multiplier-index c.multiplier-item.result (expression_of c.loop-multiplier.left)
          (expression_of c.in_ok-left-2.left) c.loop-multiplier-test.true c.multiplier-item.is
          (both_made _ _ _ _ _ _ _ c.in_ok-left-2.ensures c.product_operator.ensures refl made.0) ∙ before.0,
      next_link (λ y ms. y && is_clean (f.multipliers_faults s (v.multipliers_in ms)))
          (λ y m. y && is_clean (factor_operand s (v.factor_of m.factor)))
          (λ y m ms. clean_next y (factor_operand s (v.factor_of m.factor)) (f.multipliers_faults s
          (v.multipliers_in ms)))
          items c.loop-multiplier.multiplier-index c.multiplier-item.result c.loop-multiplier.is_clean
          c.fits_behind-is_clean-in-loop-multiplier.result c.loop-multiplier-test.true c.multiplier-item.is
          (c.fits_behind-is_clean-in-loop-multiplier.ensures _ _ (f.factor_faults s tree)
          (t.factor_place tree) made) ∙ before.1,
    )

pub product-returns : goal.product-returns
product-returns n c = λ s h.
    let items = c.deref-multiplier-items.result.now in
    let first = v.factor_of (out-Product c.args.tree.now).first in
    let second = v.factor_of (out-Product c.args.tree.now).second.factor in
    let left = c.in_ok-first.ensures s h in
    let right = c.in_ok-second.ensures s h in
    let all = c.loop-multiplier.invariant s h in
    let seen = product_seen c.args.tree.now items c.deref-multiplier-items.ensures.value in (
      sym (last_link (λ y ms. x.product s y (v.multipliers_in ms)) (λ y. refl) items
          c.loop-multiplier.multiplier-index
          (expression_of c.loop-multiplier.left) c.loop-multiplier-test.false) ∙ all.0
          ∙ ap (λ y. x.product s y (v.multipliers_in items))
          (both_made _ _ _ _ _ _ _ c.in_ok-left.ensures c.product_operator-operator.ensures left.0 right.0)
          ∙ ap (x.term s) seen,
      ap (t.term_type s) seen,
      sym (last_link (λ y ms. y && is_clean (f.multipliers_faults s (v.multipliers_in ms))) (λ y. clean_past y)
          items c.loop-multiplier.multiplier-index c.loop-multiplier.is_clean c.loop-multiplier-test.false) ∙ all.1
          ∙ ap (λ b. b && is_clean (f.multipliers_faults s (v.multipliers_in items)))
          (c.fits_behind-is_clean.ensures _ _ (f.factor_faults s second) (t.factor_place second) right
          ∙ ap (λ b. b && is_clean (factor_operand s second))
          (c.fits-is_first.ensures _ _ (f.factor_faults s first) (t.factor_place first) left))
          ∙ clean_chain (f.factor_faults s first) (f.wants Integer (t.factor_type s first) (t.factor_place first))
          (f.factor_faults s second) (f.wants Integer (t.factor_type s second) (t.factor_place second))
          (f.multipliers_faults s (v.multipliers_in items)) ∙ ap (λ y. is_clean (f.term_faults s y)) seen,
    )

pub total-loop-summand-preserved : goal.total-loop-summand-preserved
total-loop-summand-preserved n c = λ s h.
    let items = c.deref-summand-items.result.now in
    let tree = v.term_of c.summand-item.result.term in
    let made = c.in_ok-right.ensures s h in
    let before = c.loop-summand.invariant s h in (
      next_link (λ y ms. x.total s y (v.summands_in ms))
          (λ y m. Both (x.sum_operator m.operator) y (x.term s (v.term_of m.term))) (λ y m ms. refl) items
          c.loop-summand.summand-index c.summand-item.result (expression_of c.loop-summand.left)
          (expression_of c.in_ok-left-2.left) c.loop-summand-test.true c.summand-item.is
          (both_made _ _ _ _ _ _ _ c.in_ok-left-2.ensures c.sum_operator.ensures refl made.0) ∙ before.0,
      next_link (λ y ms. y && is_clean (f.summands_faults s (v.summands_in ms)))
          (λ y m. y && is_clean (term_operand s (v.term_of m.term)))
          (λ y m ms. clean_next y (term_operand s (v.term_of m.term)) (f.summands_faults s (v.summands_in ms)))
          items c.loop-summand.summand-index c.summand-item.result c.loop-summand.is_clean
          c.fits_behind-is_clean-in-loop-summand.result c.loop-summand-test.true c.summand-item.is
          (c.fits_behind-is_clean-in-loop-summand.ensures _ _ (f.term_faults s tree)
          (t.term_place tree) made) ∙ before.1,
    )

pub total-returns : goal.total-returns
total-returns n c = λ s h.
    let items = c.deref-summand-items.result.now in
    let first = v.term_of (out-Total c.args.tree.now).first in
    let second = v.term_of (out-Total c.args.tree.now).second.term in
    let left = c.in_ok-first.ensures s h in
    let right = c.in_ok-second.ensures s h in
    let all = c.loop-summand.invariant s h in
    let seen = total_seen c.args.tree.now items c.deref-summand-items.ensures.value in (
      sym (last_link (λ y ms. x.total s y (v.summands_in ms)) (λ y. refl) items
          c.loop-summand.summand-index (expression_of c.loop-summand.left) c.loop-summand-test.false) ∙ all.0
          ∙ ap (λ y. x.total s y (v.summands_in items))
          (both_made _ _ _ _ _ _ _ c.in_ok-left.ensures c.sum_operator-operator.ensures left.0 right.0)
          ∙ ap (x.sum s) seen,
      ap (t.sum_type s) seen,
      sym (last_link (λ y ms. y && is_clean (f.summands_faults s (v.summands_in ms))) (λ y. clean_past y)
          items c.loop-summand.summand-index c.loop-summand.is_clean c.loop-summand-test.false) ∙ all.1
          ∙ ap (λ b. b && is_clean (f.summands_faults s (v.summands_in items)))
          (c.fits_behind-is_clean.ensures _ _ (f.term_faults s second) (t.term_place second) right
          ∙ ap (λ b. b && is_clean (term_operand s second))
          (c.fits-is_first.ensures _ _ (f.term_faults s first) (t.term_place first) left))
          ∙ clean_chain (f.term_faults s first) (f.wants Integer (t.term_type s first) (t.term_place first))
          (f.term_faults s second) (f.wants Integer (t.term_type s second) (t.term_place second))
          (f.summands_faults s (v.summands_in items)) ∙ ap (λ y. is_clean (f.sum_faults s y)) seen,
    )

pub all_of-loop-further-preserved : goal.all_of-loop-further-preserved
all_of-loop-further-preserved n c = λ s h.
    let items = c.deref-further-items.result.now in
    let tree = v.relation_of c.further-item.result in
    let made = c.in_ok-right.ensures s h in
    let before = c.loop-further.invariant s h in (
      next_link (λ y ms. x.all_of s y (v.relations_in ms))
          (λ y m. Both And y (x.relation s (v.relation_of m))) (λ y m ms. refl) items
          c.loop-further.further-index c.further-item.result (expression_of c.loop-further.left)
          (expression_of c.in_ok-left-2.left) c.loop-further-test.true c.further-item.is
          (both_made _ _ _ _ _ _ _ c.in_ok-left-2.ensures refl refl made.0) ∙ before.0,
      next_link (λ y ms. y && is_clean (f.relations_faults s (v.relations_in ms)))
          (λ y m. y && is_clean (relation_operand s (v.relation_of m)))
          (λ y m ms. clean_next y (relation_operand s (v.relation_of m)) (f.relations_faults s (v.relations_in ms)))
          items c.loop-further.further-index c.further-item.result c.loop-further.is_clean
          c.fits_behind-is_clean-in-loop-further.result c.loop-further-test.true c.further-item.is
          (c.fits_behind-is_clean-in-loop-further.ensures _ _ (f.relation_faults s tree)
          (t.relation_place tree) made) ∙ before.1,
    )

pub all_of-returns : goal.all_of-returns
all_of-returns n c = λ s h.
    let items = c.deref-further-items.result.now in
    let first = v.relation_of c.args.tree.now.first in
    let second = v.relation_of c.args.tree.now.second in
    let left = c.in_ok-first.ensures s h in
    let right = c.in_ok-second.ensures s h in
    let all = c.loop-further.invariant s h in
    let seen = ap (λ ms. AllOf first (AndAlso second (v.relations_in ms))) c.deref-further-items.ensures.value in (
      sym (last_link (λ y ms. x.all_of s y (v.relations_in ms)) (λ y. refl) items
          c.loop-further.further-index (expression_of c.loop-further.left) c.loop-further-test.false) ∙ all.0
          ∙ ap (λ y. x.all_of s y (v.relations_in items))
          (both_made _ _ _ _ _ _ _ c.in_ok-left.ensures refl left.0 right.0)
          ∙ ap (x.conjunction s) seen,
      refl,
      sym (last_link (λ y ms. y && is_clean (f.relations_faults s (v.relations_in ms))) (λ y. clean_past y)
          items c.loop-further.further-index c.loop-further.is_clean c.loop-further-test.false) ∙ all.1
          ∙ ap (λ b. b && is_clean (f.relations_faults s (v.relations_in items)))
          (c.fits_behind-is_clean.ensures _ _ (f.relation_faults s second) (t.relation_place second) right
          ∙ ap (λ b. b && is_clean (relation_operand s second))
          (c.fits-is_first.ensures _ _ (f.relation_faults s first) (t.relation_place first) left))
          ∙ clean_chain (f.relation_faults s first) (f.wants Boolean (t.relation_type s first) (t.relation_place first))
          (f.relation_faults s second) (f.wants Boolean (t.relation_type s second) (t.relation_place second))
          (f.relations_faults s (v.relations_in items)) ∙ ap (λ y. is_clean (f.conjunction_faults s y)) seen,
    )

pub any_of-loop-further-preserved : goal.any_of-loop-further-preserved
any_of-loop-further-preserved n c = λ s h.
    let items = c.deref-further-items.result.now in
    let tree = v.conjunction_of c.further-item.result in
    let made = c.in_ok-right.ensures s h in
    let before = c.loop-further.invariant s h in (
      next_link (λ y ms. x.any_of s y (v.conjunctions_in ms))
          (λ y m. Both Or y (x.conjunction s (v.conjunction_of m))) (λ y m ms. refl) items
          c.loop-further.further-index c.further-item.result (expression_of c.loop-further.left)
          (expression_of c.in_ok-left-2.left) c.loop-further-test.true c.further-item.is
          (both_made _ _ _ _ _ _ _ c.in_ok-left-2.ensures refl refl made.0) ∙ before.0,
      next_link (λ y ms. y && is_clean (f.conjunctions_faults s (v.conjunctions_in ms)))
          (λ y m. y && is_clean (conjunction_operand s (v.conjunction_of m)))
          (λ y m ms. clean_next y (conjunction_operand s (v.conjunction_of m)) (f.conjunctions_faults s
          (v.conjunctions_in ms)))
          items c.loop-further.further-index c.further-item.result c.loop-further.is_clean
          c.fits_behind-is_clean-in-loop-further.result c.loop-further-test.true c.further-item.is
          (c.fits_behind-is_clean-in-loop-further.ensures _ _ (f.conjunction_faults s tree)
          (t.conjunction_place tree) made) ∙ before.1,
    )

pub any_of-returns : goal.any_of-returns
any_of-returns n c = λ s h.
    let items = c.deref-further-items.result.now in
    let first = v.conjunction_of c.args.tree.now.first in
    let second = v.conjunction_of c.args.tree.now.second in
    let left = c.in_ok-first.ensures s h in
    let right = c.in_ok-second.ensures s h in
    let all = c.loop-further.invariant s h in
    let seen = ap (λ ms. AnyOf first (OrElse second (v.conjunctions_in ms))) c.deref-further-items.ensures.value in (
      sym (last_link (λ y ms. x.any_of s y (v.conjunctions_in ms)) (λ y. refl) items
          c.loop-further.further-index (expression_of c.loop-further.left) c.loop-further-test.false) ∙ all.0
          ∙ ap (λ y. x.any_of s y (v.conjunctions_in items))
          (both_made _ _ _ _ _ _ _ c.in_ok-left.ensures refl left.0 right.0)
          ∙ ap (x.expression s) seen,
      refl,
      sym (last_link (λ y ms. y && is_clean (f.conjunctions_faults s (v.conjunctions_in ms))) (λ y. clean_past y)
          items c.loop-further.further-index c.loop-further.is_clean c.loop-further-test.false) ∙ all.1
          ∙ ap (λ b. b && is_clean (f.conjunctions_faults s (v.conjunctions_in items)))
          (c.fits_behind-is_clean.ensures _ _ (f.conjunction_faults s second) (t.conjunction_place second) right
          ∙ ap (λ b. b && is_clean (conjunction_operand s second))
          (c.fits-is_first.ensures _ _ (f.conjunction_faults s first) (t.conjunction_place first) left))
          ∙ clean_chain (f.conjunction_faults s first) (f.wants Boolean (t.conjunction_type s first)
          (t.conjunction_place first))
          (f.conjunction_faults s second) (f.wants Boolean (t.conjunction_type s second) (t.conjunction_place second))
          (f.conjunctions_faults s (v.conjunctions_in items)) ∙ ap (λ y. is_clean (f.expression_faults s y)) seen,
    )

pub comparison-returns : goal.comparison-returns
comparison-returns n c = λ s h.
    let left = v.sum_of c.args.tree.now.left in
    let right = v.sum_of c.args.tree.now.right in (
      both_made _ _ _ _ _ _ _ c.in_ok-joined.ensures c.comparison_operator-operator.ensures
          (c.in_ok-left.ensures s h).0 (c.in_ok-right.ensures s h).0,
      refl,
      c.compares-is_clean.ensures _ _ _ _ (f.sum_faults s left) (f.sum_faults s right) (t.sum_place left)
          (t.sum_place right) (c.in_ok-left.ensures s h) (c.in_ok-right.ensures s h),
    )

pub conjunction-returns-in-AllOf : goal.conjunction-returns-in-AllOf
conjunction-returns-in-AllOf n c = λ s h.
    subst (λ y. IfOk c.all_of.result (IsConjunction s (v.conjunction_of y))) (sym c.in-AllOf.is)
    (subst (λ y. IfOk c.all_of.result (IsConjunction s y)) (all_of_seen c.in-AllOf.tree)
    (subst (λ y. IfOk c.all_of.result (IsConjunction s (AllOf (v.relation_of y.first)
    (AndAlso (v.relation_of y.second) (v.relations_in y.rest.items))))) c.deref-in-AllOf.ensures
    (c.all_of.ensures s h)))

pub expression-returns-in-AllOf : goal.expression-returns-in-AllOf
expression-returns-in-AllOf n c = λ s h.
    let tree = v.conjunction_of (AllOfMade c.in-AllOf.tree) in
    subst (λ y. IfOk c.all_of.result (IsTyped s (v.expression_of y))) (sym c.in-AllOf.is)
    (subst (λ fs. IfOk c.all_of.result (Says (x.conjunction s tree) (t.conjunction_type s tree) fs))
    (sym (append-nil (f.conjunction_faults s tree)))
    (subst (λ y. IfOk c.all_of.result (IsConjunction s y)) (all_of_seen c.in-AllOf.tree)
    (subst (λ y. IfOk c.all_of.result (IsConjunction s (AllOf (v.relation_of y.first)
    (AndAlso (v.relation_of y.second) (v.relations_in y.rest.items))))) c.deref-in-AllOf.ensures
    (c.all_of.ensures s h))))

pub expression-returns-in-AnyOf : goal.expression-returns-in-AnyOf
expression-returns-in-AnyOf n c = λ s h.
    subst (λ y. IfOk c.any_of.result (IsTyped s (v.expression_of y))) (sym c.in-AnyOf.is)
    (subst (λ y. IfOk c.any_of.result (IsTyped s y)) (any_of_seen c.in-AnyOf.tree)
    (subst (λ y. IfOk c.any_of.result (IsTyped s (AnyOf (v.conjunction_of y.first)
    (OrElse (v.conjunction_of y.second) (v.conjunctions_in y.rest.items))))) c.deref-in-AnyOf.ensures
    (c.any_of.ensures s h)))

pub factor-returns-in-Name : goal.factor-returns-in-Name
factor-returns-in-Name n c = λ s h.
    let name = v.name_of c.in-Name.name in
    subst (λ y. IsFactor s (v.factor_of y) c.variable.result) (sym c.in-Name.is)
    (subst (λ fs. Says (x.variable_of (meaning s name)) (t.type_of_use (meaning s name) NoIndex) fs c.variable.result)
    (sym (append-nil (f.use_faults (meaning s name) NoIndex name.place)))
    (subst (λ m. Says (x.variable_of m) (t.type_of_use m NoIndex) (f.use_faults m NoIndex name.place)
    c.variable.result) (c.meaning.ensures s h) (c.variable.ensures name.place)))

pub term-returns-in-Factor : goal.term-returns-in-Factor
term-returns-in-Factor n c = λ s h.
    let tree = v.factor_of c.in-Factor.tree in
    subst (λ y. IfOk c.factor.result (IsTerm s (v.term_of y))) (sym c.in-Factor.is)
    (subst (λ fs. IfOk c.factor.result (Says (x.factor s tree) (t.factor_type s tree) fs))
    (sym (lone (f.factor_faults s tree))) (c.factor.ensures s h))

pub term-returns-in-Product : goal.term-returns-in-Product
term-returns-in-Product n c = λ s h.
    subst (λ y. IfOk c.product.result (IsTerm s (v.term_of y))) (sym c.in-Product.is)
    (subst (λ y. IfOk c.product.result (IsTerm s (v.product_of y))) c.deref.ensures (c.product.ensures s h))

pub sum-returns-in-Factor : goal.sum-returns-in-Factor
sum-returns-in-Factor n c = λ s h.
    let tree = v.factor_of c.in-Factor.tree in
    subst (λ y. IfOk c.factor.result (IsSum s (v.sum_of y))) (sym c.in-Factor.is)
    (subst (λ fs. IfOk c.factor.result (Says (x.factor s tree) (t.factor_type s tree) fs))
    (sym (lone2 (f.factor_faults s tree))) (c.factor.ensures s h))

pub sum-returns-in-Product : goal.sum-returns-in-Product
sum-returns-in-Product n c = λ s h.
    let tree = v.product_of c.in-Product.tree.value in
    subst (λ y. IfOk c.product.result (IsSum s (v.sum_of y))) (sym c.in-Product.is)
    (subst (λ fs. IfOk c.product.result (Says (x.term s tree) (t.term_type s tree) fs))
    (sym (lone (f.term_faults s tree)))
    (subst (λ y. IfOk c.product.result (IsTerm s (v.product_of y))) c.deref.ensures (c.product.ensures s h)))

pub sum-returns-in-Total : goal.sum-returns-in-Total
sum-returns-in-Total n c = λ s h.
    subst (λ y. IfOk c.total.result (IsSum s (v.sum_of y))) (sym c.in-Total.is)
    (subst (λ y. IfOk c.total.result (IsSum s (v.total_of y))) c.deref-in-Total.ensures (c.total.ensures s h))

pub relation-returns-in-Factor : goal.relation-returns-in-Factor
relation-returns-in-Factor n c = λ s h.
    let tree = v.factor_of c.in-Factor.tree in
    subst (λ y. IfOk c.factor.result (IsRelation s (v.relation_of y))) (sym c.in-Factor.is)
    (subst (λ fs. IfOk c.factor.result (Says (x.factor s tree) (t.factor_type s tree) fs))
    (sym (lone3 (f.factor_faults s tree))) (c.factor.ensures s h))

pub relation-returns-in-Product : goal.relation-returns-in-Product
relation-returns-in-Product n c = λ s h.
    let tree = v.product_of c.in-Product.tree.value in
    subst (λ y. IfOk c.product.result (IsRelation s (v.relation_of y))) (sym c.in-Product.is)
    (subst (λ fs. IfOk c.product.result (Says (x.term s tree) (t.term_type s tree) fs))
    (sym (lone2 (f.term_faults s tree)))
    (subst (λ y. IfOk c.product.result (IsTerm s (v.product_of y))) c.deref.ensures (c.product.ensures s h)))

pub relation-returns-in-Total : goal.relation-returns-in-Total
relation-returns-in-Total n c = λ s h.
    let tree = v.total_of c.in-Total.tree.value in
    subst (λ y. IfOk c.total.result (IsRelation s (v.relation_of y))) (sym c.in-Total.is)
    (subst (λ fs. IfOk c.total.result (Says (x.sum s tree) (t.sum_type s tree) fs))
    (sym (lone (f.sum_faults s tree)))
    (subst (λ y. IfOk c.total.result (IsSum s (v.total_of y))) c.deref-in-Total.ensures (c.total.ensures s h)))

pub relation-returns-in-Comparison : goal.relation-returns-in-Comparison
relation-returns-in-Comparison n c = λ s h.
    subst (λ y. IfOk c.comparison.result (IsRelation s (v.relation_of y))) (sym c.in-Comparison.is)
    (subst (λ y. IfOk c.comparison.result (IsRelation s (Relates (v.sum_of y.left) (Compares y.comparator
    (v.sum_of y.right)))))
    c.deref-in-Comparison.ensures (c.comparison.ensures s h))

pub conjunction-returns-in-Factor : goal.conjunction-returns-in-Factor
conjunction-returns-in-Factor n c = λ s h.
    let tree = v.factor_of c.in-Factor.tree in
    subst (λ y. IfOk c.factor.result (IsConjunction s (v.conjunction_of y))) (sym c.in-Factor.is)
    (subst (λ fs. IfOk c.factor.result (Says (x.factor s tree) (t.factor_type s tree) fs))
    (sym (lone4 (f.factor_faults s tree))) (c.factor.ensures s h))

pub conjunction-returns-in-Product : goal.conjunction-returns-in-Product
conjunction-returns-in-Product n c = λ s h.
    let tree = v.product_of c.in-Product.tree.value in
    subst (λ y. IfOk c.product.result (IsConjunction s (v.conjunction_of y))) (sym c.in-Product.is)
    (subst (λ fs. IfOk c.product.result (Says (x.term s tree) (t.term_type s tree) fs))
    (sym (lone3 (f.term_faults s tree)))
    (subst (λ y. IfOk c.product.result (IsTerm s (v.product_of y))) c.deref.ensures (c.product.ensures s h)))

pub conjunction-returns-in-Total : goal.conjunction-returns-in-Total
conjunction-returns-in-Total n c = λ s h.
    let tree = v.total_of c.in-Total.tree.value in
    subst (λ y. IfOk c.total.result (IsConjunction s (v.conjunction_of y))) (sym c.in-Total.is)
    (subst (λ fs. IfOk c.total.result (Says (x.sum s tree) (t.sum_type s tree) fs))
    (sym (lone2 (f.sum_faults s tree)))
    (subst (λ y. IfOk c.total.result (IsSum s (v.total_of y))) c.deref-in-Total.ensures (c.total.ensures s h)))

pub conjunction-returns-in-Comparison : goal.conjunction-returns-in-Comparison
conjunction-returns-in-Comparison n c = λ s h.
    let tree = Relates (v.sum_of c.in-Comparison.tree.value.left) (Compares
    c.in-Comparison.tree.value.comparator (v.sum_of c.in-Comparison.tree.value.right)) in
    subst (λ y. IfOk c.comparison.result (IsConjunction s (v.conjunction_of y))) (sym c.in-Comparison.is)
    (subst (λ fs. IfOk c.comparison.result (Says (x.relation s tree) (t.relation_type s tree) fs))
    (sym (lone (f.relation_faults s tree)))
    (subst (λ y. IfOk c.comparison.result (IsRelation s (Relates (v.sum_of y.left) (Compares y.comparator
    (v.sum_of y.right)))))
    c.deref-in-Comparison.ensures (c.comparison.ensures s h)))

pub expression-returns-in-Factor : goal.expression-returns-in-Factor
expression-returns-in-Factor n c = λ s h.
    let tree = v.factor_of c.in-Factor.tree in
    subst (λ y. IfOk c.factor.result (IsTyped s (v.expression_of y))) (sym c.in-Factor.is)
    (subst (λ fs. IfOk c.factor.result (Says (x.factor s tree) (t.factor_type s tree) fs))
    (sym (lone5 (f.factor_faults s tree))) (c.factor.ensures s h))

pub expression-returns-in-Product : goal.expression-returns-in-Product
expression-returns-in-Product n c = λ s h.
    let tree = v.product_of c.in-Product.tree.value in
    subst (λ y. IfOk c.product.result (IsTyped s (v.expression_of y))) (sym c.in-Product.is)
    (subst (λ fs. IfOk c.product.result (Says (x.term s tree) (t.term_type s tree) fs))
    (sym (lone4 (f.term_faults s tree)))
    (subst (λ y. IfOk c.product.result (IsTerm s (v.product_of y))) c.deref.ensures (c.product.ensures s h)))

pub expression-returns-in-Total : goal.expression-returns-in-Total
expression-returns-in-Total n c = λ s h.
    let tree = v.total_of c.in-Total.tree.value in
    subst (λ y. IfOk c.total.result (IsTyped s (v.expression_of y))) (sym c.in-Total.is)
    (subst (λ fs. IfOk c.total.result (Says (x.sum s tree) (t.sum_type s tree) fs))
    (sym (lone3 (f.sum_faults s tree)))
    (subst (λ y. IfOk c.total.result (IsSum s (v.total_of y))) c.deref-in-Total.ensures (c.total.ensures s h)))

pub expression-returns-in-Comparison : goal.expression-returns-in-Comparison
expression-returns-in-Comparison n c = λ s h.
    let tree = Relates (v.sum_of c.in-Comparison.tree.value.left) (Compares
    c.in-Comparison.tree.value.comparator (v.sum_of c.in-Comparison.tree.value.right)) in
    subst (λ y. IfOk c.comparison.result (IsTyped s (v.expression_of y))) (sym c.in-Comparison.is)
    (subst (λ fs. IfOk c.comparison.result (Says (x.relation s tree) (t.relation_type s tree) fs))
    (sym (lone2 (f.relation_faults s tree)))
    (subst (λ y. IfOk c.comparison.result (IsRelation s (Relates (v.sum_of y.left) (Compares y.comparator
    (v.sum_of y.right)))))
    c.deref-in-Comparison.ensures (c.comparison.ensures s h)))
