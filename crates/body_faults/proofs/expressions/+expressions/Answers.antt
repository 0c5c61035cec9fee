use Rattle.std.proofs.Common.{◌++◌, ◌∙◌, append-nil, refl, ap, sym, subst}
use Rattle.program.specs.declared.kinds.ValueType.TheVariants.{Integer, Boolean}
use Rattle.syntax.specs.Tree.{At, Reads}
use Rattle.syntax.specs.View.{conjunction_of, relation_of, sum_of, total_of, term_of, product_of, factor_of}
use Rattle.syntax.specs.View.{expression_of, name_of, conjunctions_in, relations_in, summands_in, multipliers_in}
use Rattle.types.specs.Scope.{meaning}
use Rattle.types.specs.Standings.{meaning_of}
use Rattle.types.specs.Faults.{Gathers}
use Rattle.types.specs.Typing.{expression_type, conjunction_type, relation_type, term_type, factor_type, sum_type}
use Rattle.types.specs.Typing.{expression_place, conjunction_place, relation_place, term_place, factor_place}
use Rattle.types.specs.Typing.{sum_place, type_of_use}
use Rattle.types.specs.ExpressionFaults as x
use Rattle.types.proofs.Gathered.{gathers_none, gathers_both}
use Rattle.body_faults.specs.Operands as o
use Rattle.body_faults.proofs.Gathering.{lone, lone2, lone3, lone4, lone5, behind3, behind4, gathers_operand}
use Rattle.body_faults.proofs.Gathering.{gathers_use}
use Rattle.body_faults.proofs.Gathering.{gathers_comparison, gathers_chain, gathers_next, gathers_past}
use Rattle.body_faults.proofs.Rows.{all_of_seen, any_of_seen, gathers_product, gathers_total}
use Rattle.body_faults.proofs.expressions.+expressions.Goals.{relation-in-Product}
use Rattle.body_faults.proofs.expressions.+expressions.Goals.{relation-in-Total, relation-in-Comparison}
use Rattle.body_faults.proofs.expressions.+expressions.Goals.{conjunction-in-Product}
use Rattle.body_faults.proofs.expressions.+expressions.Goals.{conjunction-in-Total, conjunction-in-Comparison}
use Rattle.body_faults.proofs.expressions.+expressions.Goals.{conjunction-in-AllOf}
use Rattle.body_faults.proofs.expressions.+expressions.Goals as goal

pub term-returns-in-Factor : goal.term-returns-in-Factor
term-returns-in-Factor t c = λ s h.
    subst (λ y. Gathers (o.term_operand s (term_of y)) c.args.least c.factor_operand.result) (sym c.in-Factor.is)
    (subst (λ fs. Gathers (fs ++ x.wants Integer (factor_type s (factor_of c.in-Factor.inner))
    (factor_place (factor_of c.in-Factor.inner))) c.args.least c.factor_operand.result)
    (sym (append-nil (x.factor_faults s (factor_of c.in-Factor.inner)))) (c.factor_operand.ensures s h))

pub term-returns-in-Product : goal.term-returns-in-Product
term-returns-in-Product t c = λ s h.
    gathers_operand (x.term_faults s (term_of c.args.tree.now)) Integer c.term_type.result
    (term_type s (term_of c.args.tree.now))
    c.term_place.result (term_place (term_of c.args.tree.now)) c.args.least c.product-inside.result c.operand.result
    (c.term_type.ensures s h) c.term_place.ensures
    (subst (λ y. Gathers (x.term_faults s (term_of y)) c.args.least c.product-inside.result) (sym c.in-Product.is)
    (subst (λ y. Gathers (x.term_faults s (product_of y)) c.args.least c.product-inside.result) c.deref.ensures
    (c.product-inside.ensures s h)))
    c.operand.ensures

pub relation-returns : goal.relation-returns
relation-returns t c = λ s h.
    gathers_operand (x.relation_faults s (relation_of c.args.tree.now)) Boolean c.relation_type.result
    (relation_type s (relation_of c.args.tree.now))
    c.relation_place.result
    (relation_place (relation_of c.args.tree.now)) c.args.least c.match-tree.inside c.operand.result
    (c.relation_type.ensures s h) c.relation_place.ensures
    (elim c.match-tree.branch [
      | relation-in-Product w ↦ subst (λ r. Gathers (x.relation_faults s
          (relation_of c.args.tree.now)) c.args.least r) (sym w.inside-is)
          (subst (λ y. Gathers (x.relation_faults s (relation_of y)) c.args.least w.product-inside.result)
          (sym w.in-Product.is)
          (lone2 _ c.args.least w.product-inside.result (subst
          (λ y. Gathers (x.term_faults s (product_of y)) c.args.least w.product-inside.result) w.deref.ensures
          (w.product-inside.ensures s h))))
      | relation-in-Total w ↦ subst (λ r. Gathers (x.relation_faults s (relation_of c.args.tree.now)) c.args.least
          r)
          (sym w.inside-is)
          (subst (λ y. Gathers (x.relation_faults s (relation_of y)) c.args.least w.total-inside.result)
          (sym w.in-Total.is)
          (lone _ c.args.least w.total-inside.result (subst (λ y. Gathers
          (x.sum_faults s (total_of y)) c.args.least w.total-inside.result) w.deref-in-Total.ensures
          (w.total-inside.ensures s h))))
      | relation-in-Comparison w ↦ subst (λ r. Gathers (x.relation_faults s
          (relation_of c.args.tree.now)) c.args.least r) (sym w.inside-is)
          (subst (λ y. Gathers (x.relation_faults s (relation_of y)) c.args.least w.comparison-inside.result)
          (sym w.in-Comparison.is)
          (subst (λ y. Gathers (o.comparison s (sum_of y.left) y.comparator
          (sum_of y.right)) c.args.least w.comparison-inside.result) w.deref-in-Comparison.ensures
          (w.comparison-inside.ensures s h)))
    ])
    c.operand.ensures

pub conjunction-returns : goal.conjunction-returns
conjunction-returns t c = λ s h.
    gathers_operand (x.conjunction_faults s (conjunction_of c.args.tree.now)) Boolean c.conjunction_type.result
    (conjunction_type s (conjunction_of c.args.tree.now))
    c.conjunction_place.result
    (conjunction_place (conjunction_of c.args.tree.now)) c.args.least c.match-tree.inside c.operand.result
    (c.conjunction_type.ensures s h) c.conjunction_place.ensures
    (elim c.match-tree.branch [
      | conjunction-in-Product w ↦ subst (λ r. Gathers (x.conjunction_faults s
          (conjunction_of c.args.tree.now)) c.args.least r) (sym w.inside-is)
          (subst (λ y. Gathers (x.conjunction_faults s (conjunction_of y)) c.args.least w.product-inside.result)
          (sym w.in-Product.is)
          (lone3 _ c.args.least w.product-inside.result (subst
          (λ y. Gathers (x.term_faults s (product_of y)) c.args.least w.product-inside.result) w.deref.ensures
          (w.product-inside.ensures s h))))
      | conjunction-in-Total w ↦ subst (λ r. Gathers (x.conjunction_faults s
          (conjunction_of c.args.tree.now)) c.args.least r) (sym w.inside-is)
          (subst (λ y. Gathers (x.conjunction_faults s (conjunction_of y)) c.args.least w.total-inside.result)
          (sym w.in-Total.is)
          (lone2 _ c.args.least w.total-inside.result (subst (λ y. Gathers
          (x.sum_faults s (total_of y)) c.args.least w.total-inside.result) w.deref-in-Total.ensures
          (w.total-inside.ensures s h))))
      | conjunction-in-Comparison w ↦ subst (λ r. Gathers (x.conjunction_faults s
          (conjunction_of c.args.tree.now)) c.args.least r) (sym w.inside-is)
          (subst (λ y. Gathers (x.conjunction_faults s (conjunction_of y)) c.args.least w.comparison-inside.result)
          (sym w.in-Comparison.is)
          (lone _ c.args.least w.comparison-inside.result (subst
          (λ y. Gathers (o.comparison s (sum_of y.left) y.comparator
          (sum_of y.right)) c.args.least w.comparison-inside.result) w.deref-in-Comparison.ensures
          (w.comparison-inside.ensures s h))))
      | conjunction-in-AllOf w ↦ subst (λ r. Gathers (x.conjunction_faults s
          (conjunction_of c.args.tree.now)) c.args.least r) (sym w.inside-is)
          (subst (λ y. Gathers (x.conjunction_faults s (conjunction_of y)) c.args.least w.all_of-inside.result)
          (sym w.in-AllOf.is)
          (subst (λ fs. Gathers fs c.args.least w.all_of-inside.result) (all_of_seen s w.in-AllOf.tree)
          (subst (λ y. Gathers (o.all_of s (relation_of y.first) (relation_of y.second)
          (relations_in y.rest.items)) c.args.least w.all_of-inside.result) w.deref-in-AllOf.ensures
          (w.all_of-inside.ensures s h))))
    ])
    c.operand.ensures

pub sum-returns-in-Factor : goal.sum-returns-in-Factor
sum-returns-in-Factor t c = λ s h.
    subst (λ y. Gathers (x.sum_faults s (sum_of y)) c.args.least c.factor.result) (sym c.in-Factor.is)
    (lone2 _ c.args.least c.factor.result (c.factor.ensures s h))

pub sum-returns-in-Product : goal.sum-returns-in-Product
sum-returns-in-Product t c = λ s h.
    subst (λ y. Gathers (x.sum_faults s (sum_of y)) c.args.least c.product.result) (sym c.in-Product.is)
    (lone _ c.args.least c.product.result (subst (λ y. Gathers
    (x.term_faults s (product_of y)) c.args.least c.product.result) c.deref.ensures (c.product.ensures s h)))

pub sum-returns-in-Total : goal.sum-returns-in-Total
sum-returns-in-Total t c = λ s h.
    subst (λ y. Gathers (x.sum_faults s (sum_of y)) c.args.least c.total.result) (sym c.in-Total.is)
    (subst (λ y. Gathers (x.sum_faults s (total_of y)) c.args.least c.total.result) c.deref-in-Total.ensures
    (c.total.ensures s h))

pub expression-returns-in-Factor : goal.expression-returns-in-Factor
expression-returns-in-Factor t c = λ s h.
    subst (λ y. Gathers (x.expression_faults s (expression_of y)) c.args.least c.factor.result) (sym c.in-Factor.is)
    (lone5 _ c.args.least c.factor.result (c.factor.ensures s h))

pub expression-returns-in-Product : goal.expression-returns-in-Product
expression-returns-in-Product t c = λ s h.
    subst (λ y. Gathers (x.expression_faults s (expression_of y)) c.args.least c.product.result)
    (sym c.in-Product.is)
    (lone4 _ c.args.least c.product.result (subst (λ y. Gathers
    (x.term_faults s (product_of y)) c.args.least c.product.result) c.deref.ensures (c.product.ensures s h)))

pub expression-returns-in-Total : goal.expression-returns-in-Total
expression-returns-in-Total t c = λ s h.
    subst (λ y. Gathers (x.expression_faults s (expression_of y)) c.args.least c.total.result) (sym c.in-Total.is)
    (lone3 _ c.args.least c.total.result (subst (λ y. Gathers
    (x.sum_faults s (total_of y)) c.args.least c.total.result) c.deref-in-Total.ensures (c.total.ensures s h)))

pub expression-returns-in-Comparison : goal.expression-returns-in-Comparison
expression-returns-in-Comparison t c = λ s h.
    subst (λ y. Gathers (x.expression_faults s (expression_of y)) c.args.least c.comparison.result)
    (sym c.in-Comparison.is)
    (lone2 _ c.args.least c.comparison.result (subst (λ y. Gathers
    (o.comparison s (sum_of y.left) y.comparator
    (sum_of y.right)) c.args.least c.comparison.result) c.deref-in-Comparison.ensures (c.comparison.ensures s h)))

pub expression-returns-in-AllOf : goal.expression-returns-in-AllOf
expression-returns-in-AllOf t c = λ s h.
    subst (λ y. Gathers (x.expression_faults s (expression_of y)) c.args.least c.all_of.result) (sym c.in-AllOf.is)
    (lone _ c.args.least c.all_of.result (subst (λ fs. Gathers fs c.args.least c.all_of.result)
    (all_of_seen s c.in-AllOf.tree) (subst (λ y. Gathers (o.all_of s (relation_of y.first) (relation_of y.second)
    (relations_in y.rest.items)) c.args.least c.all_of.result) c.deref-in-AllOf.ensures (c.all_of.ensures s h))))

pub expression-returns-in-AnyOf : goal.expression-returns-in-AnyOf
expression-returns-in-AnyOf t c = λ s h.
    subst (λ y. Gathers (x.expression_faults s (expression_of y)) c.args.least c.any_of.result) (sym c.in-AnyOf.is)
    (subst (λ fs. Gathers fs c.args.least c.any_of.result) (any_of_seen s c.in-AnyOf.tree)
    (subst (λ y. Gathers (o.any_of s (conjunction_of y.first) (conjunction_of y.second)
    (conjunctions_in y.rest.items)) c.args.least c.any_of.result) c.deref-in-AnyOf.ensures (c.any_of.ensures s h)))

pub comparison-returns : goal.comparison-returns
comparison-returns t c = λ s h.
    let left = c.judge_sum-left.result in
    let right = c.judge_sum-right.result in
    gathers_comparison (x.sum_faults s (sum_of c.args.tree.now.left))
    (x.sum_faults s (sum_of c.args.tree.now.right)) c.args.tree.now.comparator
    left.kind (sum_type s (sum_of c.args.tree.now.left)) right.kind
    (sum_type s (sum_of c.args.tree.now.right))
    c.sum_place.result (sum_place (sum_of c.args.tree.now.left)) c.sum_place-2.result
    (sum_place (sum_of c.args.tree.now.right))
    c.comparison_faults-sides.result.left c.comparison_faults-sides.result.right
    c.args.least left.least right.least c.note-first.result c.note.result
    (c.judge_sum-left.ensures.kind s h) (c.judge_sum-right.ensures.kind s h) c.sum_place.ensures
    c.sum_place-2.ensures
    (c.comparison_faults-sides.ensures c.sum_place.result c.sum_place-2.result)
    (c.judge_sum-left.ensures.least s h) (c.judge_sum-right.ensures.least s h) c.note-first.ensures c.note.ensures

pub factor_operand-returns-in-Name : goal.factor_operand-returns-in-Name
factor_operand-returns-in-Name t c = λ s h.
    subst (λ y. Gathers (o.factor_operand s c.args.wanted (factor_of y)) c.args.least c.name_operand.result)
    (sym c.in-Name.is) (c.name_operand.ensures s h)

pub factor_operand-returns-in-Number : goal.factor_operand-returns-in-Number
factor_operand-returns-in-Number t c = λ s h.
    subst (λ y. Gathers (o.factor_operand s c.args.wanted (factor_of y)) c.args.least c.operand.result)
    (sym c.in-Number.is) c.operand.ensures

pub factor_operand-returns-in-Element : goal.factor_operand-returns-in-Element
factor_operand-returns-in-Element t c = λ s h.
    let judged = c.element-judged.result in
    let place = c.in-Element.inner.value.name.place in
    subst (λ y. Gathers (o.factor_operand s c.args.wanted (factor_of y)) c.args.least c.operand-in-Element.result)
    (sym c.in-Element.is)
    (subst (λ y. Gathers (o.element s (name_of y.name) (expression_of y.index)
    ++ x.wants c.args.wanted (factor_type s (Reads (name_of y.name) (At (expression_of y.index)))) place)
    c.args.least
    c.operand-in-Element.result) c.deref.ensures
    (gathers_operand _ c.args.wanted judged.kind _ c.deref-in-Element.result.now.name.place place c.args.least
    judged.least c.operand-in-Element.result
    (c.element-judged.ensures.kind s h)
    (ap (λ y. y.name.place) c.deref-in-Element.ensures) (c.element-judged.ensures.least s h)
    c.operand-in-Element.ensures))

pub factor_operand-returns-in-Group : goal.factor_operand-returns-in-Group
factor_operand-returns-in-Group t c = λ s h.
    let judged = c.judge_expression-judged.result in
    let place = c.in-Group.place in
    subst (λ y. Gathers (o.factor_operand s c.args.wanted (factor_of y)) c.args.least c.operand-in-Group.result)
    (sym c.in-Group.is)
    (subst (λ y. Gathers (x.expression_faults s (expression_of y)
    ++ x.wants c.args.wanted (expression_type s (expression_of y)) place) c.args.least c.operand-in-Group.result)
    c.deref-in-Group.ensures
    (gathers_operand _ c.args.wanted judged.kind _ place place c.args.least judged.least c.operand-in-Group.result
    (c.judge_expression-judged.ensures.kind s h) refl (c.judge_expression-judged.ensures.least s h)
    c.operand-in-Group.ensures))

pub factor_operand-returns-in_default : goal.factor_operand-returns-in_default
factor_operand-returns-in_default t c = λ s h.
    gathers_operand (x.factor_faults s (factor_of c.args.tree.now)) c.args.wanted c.factor_type.result
    (factor_type s (factor_of c.args.tree.now))
    c.factor_place.result
    (factor_place (factor_of c.args.tree.now)) c.args.least c.factor-inside.result c.operand-in_default.result
    (c.factor_type.ensures s h) c.factor_place.ensures (c.factor-inside.ensures s h) c.operand-in_default.ensures

pub element-returns-clause-least : goal.element-returns-clause-least
element-returns-clause-least t c = λ s h.
    let index = c.judge_expression-index.result in
    gathers_both (x.use_faults (meaning s (name_of c.args.tree.now.name))
    (At (expression_of c.args.tree.now.index)) c.args.tree.now.name.place)
    (x.expression_faults s (expression_of c.args.tree.now.index)
    ++ x.wants Integer (expression_type s (expression_of c.args.tree.now.index))
    (expression_place (expression_of c.args.tree.now.index)))
    c.args.least c.note-before.result c.operand.result
    (gathers_use (At (expression_of c.args.tree.now.index)) (meaning_of c.meaning-meaning.result)
    (meaning s (name_of c.args.tree.now.name))
    c.index_fault.result c.args.tree.now.name.place c.args.least c.note-before.result
    (c.meaning-meaning.ensures s h)
    (c.index_fault.ensures
    (expression_of c.args.tree.now.index) c.args.tree.now.name.place) c.note-before.ensures)
    (gathers_operand (x.expression_faults s (expression_of c.args.tree.now.index)) Integer index.kind
    (expression_type s (expression_of c.args.tree.now.index)) c.expression_place.result
    (expression_place
    (expression_of c.args.tree.now.index)) c.note-before.result index.least c.operand.result
    (c.judge_expression-index.ensures.kind s h) c.expression_place.ensures
    (c.judge_expression-index.ensures.least s h) c.operand.ensures)

pub element-returns-clause-kind : goal.element-returns-clause-kind
element-returns-clause-kind t c = λ s h. c.element_type.ensures (expression_of c.args.tree.now.index)
    ∙ ap (λ m. type_of_use m (At (expression_of c.args.tree.now.index))) (c.meaning-meaning.ensures s h)

pub factor-returns-in-Number : goal.factor-returns-in-Number
factor-returns-in-Number t c = λ s h.
    subst (λ y. Gathers (x.factor_faults s (factor_of y)) c.args.least c.args.least) (sym c.in-Number.is)
    (gathers_none c.args.least)

pub factor-returns-in-Truth : goal.factor-returns-in-Truth
factor-returns-in-Truth t c = λ s h.
    subst (λ y. Gathers (x.factor_faults s (factor_of y)) c.args.least c.args.least) (sym c.in-Truth.is)
    (gathers_none c.args.least)

pub factor-returns-in-Name : goal.factor-returns-in-Name
factor-returns-in-Name t c = λ s h.
    subst (λ y. Gathers (x.factor_faults s (factor_of y)) c.args.least c.judge_name.result.least) (sym c.in-Name.is)
    (c.judge_name.ensures.least s h)

pub factor-returns-in-Element : goal.factor-returns-in-Element
factor-returns-in-Element t c = λ s h.
    subst (λ y. Gathers (x.factor_faults s (factor_of y)) c.args.least c.element.result.least) (sym c.in-Element.is)
    (subst (λ y. Gathers (o.element s (name_of y.name) (expression_of y.index)) c.args.least c.element.result.least)
    c.deref.ensures (c.element.ensures.least s h))

pub factor-returns-in-Group : goal.factor-returns-in-Group
factor-returns-in-Group t c = λ s h.
    subst (λ y. Gathers (x.factor_faults s (factor_of y)) c.args.least c.expression.result) (sym c.in-Group.is)
    (subst (λ y. Gathers (x.expression_faults s (expression_of y)) c.args.least c.expression.result)
    c.deref-in-Group.ensures (c.expression.ensures s h))

pub factor-returns-in-Minus : goal.factor-returns-in-Minus
factor-returns-in-Minus t c = λ s h.
    subst (λ y. Gathers (x.factor_faults s (factor_of y)) c.args.least c.factor_operand.result) (sym c.in-Minus.is)
    (subst (λ y. Gathers (o.factor_operand s Integer (factor_of y)) c.args.least c.factor_operand.result)
    c.deref-in-Minus.ensures (c.factor_operand.ensures s h))

pub factor-returns-in-Not : goal.factor-returns-in-Not
factor-returns-in-Not t c = λ s h.
    subst (λ y. Gathers (x.factor_faults s (factor_of y)) c.args.least c.factor_operand-in-Not.result)
    (sym c.in-Not.is)
    (subst (λ y. Gathers (o.factor_operand s Boolean (factor_of y)) c.args.least c.factor_operand-in-Not.result)
    c.deref-in-Not.ensures (c.factor_operand-in-Not.ensures s h))

pub product-loop-multiplier-preserved : goal.product-loop-multiplier-preserved
product-loop-multiplier-preserved t c = λ s h least k. c.loop-multiplier.invariant s h least
    (gathers_next (λ ms. x.multipliers_faults s (multipliers_in ms))
    (λ m. o.factor_operand s Integer (factor_of m.factor)) (λ m ms. refl)
    c.deref-multiplier-items.result.now c.loop-multiplier.multiplier-index c.multiplier-item.result
    c.loop-multiplier.all c.factor_operand-all-in-loop-multiplier.result least
    c.loop-multiplier-test.true c.multiplier-item.is (c.factor_operand-all-in-loop-multiplier.ensures s h) k)

pub product-returns : goal.product-returns
product-returns t c = λ s h.
    gathers_product s c.args.tree.now c.deref-multiplier-items.result.now c.args.least c.factor_operand-first.result
    c.factor_operand-all.result c.loop-multiplier.all
    c.deref-multiplier-items.ensures.value (c.factor_operand-first.ensures s h) (c.factor_operand-all.ensures s h)
    (c.loop-multiplier.invariant s h c.loop-multiplier.all
    (gathers_past
    (λ ms. x.multipliers_faults s
    (multipliers_in ms)) refl c.deref-multiplier-items.result.now c.loop-multiplier.multiplier-index
    c.loop-multiplier.all
    c.loop-multiplier-test.false))

pub total-loop-summand-preserved : goal.total-loop-summand-preserved
total-loop-summand-preserved t c = λ s h least k. c.loop-summand.invariant s h least
    (gathers_next (λ ms. x.summands_faults s (summands_in ms)) (λ m. o.term_operand s (term_of m.term))
    (λ m ms. refl)
    c.deref-summand-items.result.now c.loop-summand.summand-index c.summand-item.result c.loop-summand.all
    c.term-all-in-loop-summand.result least
    c.loop-summand-test.true c.summand-item.is (c.term-all-in-loop-summand.ensures s h) k)

pub total-returns : goal.total-returns
total-returns t c = λ s h.
    gathers_total s c.args.tree.now c.deref-summand-items.result.now c.args.least c.term-first.result
    c.term-all.result c.loop-summand.all
    c.deref-summand-items.ensures.value (c.term-first.ensures s h) (c.term-all.ensures s h)
    (c.loop-summand.invariant s h c.loop-summand.all
    (gathers_past
    (λ ms. x.summands_faults s
    (summands_in ms)) refl c.deref-summand-items.result.now c.loop-summand.summand-index c.loop-summand.all
    c.loop-summand-test.false))

pub all_of-loop-further-preserved : goal.all_of-loop-further-preserved
all_of-loop-further-preserved t c = λ s h least k. c.loop-further.invariant s h least
    (gathers_next (λ ms. x.relations_faults s (relations_in ms)) (λ m. o.relation_operand s (relation_of m))
    (λ m ms. refl)
    c.deref-further-items.result.now c.loop-further.further-index c.further-item.result c.loop-further.all
    c.relation-all-in-loop-further.result least
    c.loop-further-test.true c.further-item.is (c.relation-all-in-loop-further.ensures s h) k)

pub all_of-returns : goal.all_of-returns
all_of-returns t c = λ s h.
    gathers_chain (x.relation_faults s (relation_of c.args.tree.now.first))
    (x.wants Boolean (relation_type s (relation_of c.args.tree.now.first))
    (relation_place (relation_of c.args.tree.now.first)))
    (x.relation_faults s (relation_of c.args.tree.now.second))
    (x.wants Boolean (relation_type s (relation_of c.args.tree.now.second))
    (relation_place (relation_of c.args.tree.now.second)))
    (x.relations_faults s
    (relations_in c.args.tree.now.rest.items)) c.args.least c.relation-first.result c.relation-all.result
    c.loop-further.all (c.relation-first.ensures s h) (c.relation-all.ensures s h)
    (subst (λ ms. Gathers (x.relations_faults s (relations_in ms)) c.relation-all.result c.loop-further.all)
    c.deref-further-items.ensures.value
    (c.loop-further.invariant s h c.loop-further.all
    (gathers_past
    (λ ms. x.relations_faults s
    (relations_in ms)) refl c.deref-further-items.result.now c.loop-further.further-index c.loop-further.all
    c.loop-further-test.false)))

pub any_of-loop-further-preserved : goal.any_of-loop-further-preserved
any_of-loop-further-preserved t c = λ s h least k. c.loop-further.invariant s h least
    (gathers_next (λ ms. x.conjunctions_faults s (conjunctions_in ms))
    (λ m. o.conjunction_operand s (conjunction_of m)) (λ m ms. refl)
    c.deref-further-items.result.now c.loop-further.further-index c.further-item.result c.loop-further.all
    c.conjunction-all-in-loop-further.result least
    c.loop-further-test.true c.further-item.is (c.conjunction-all-in-loop-further.ensures s h) k)

pub any_of-returns : goal.any_of-returns
any_of-returns t c = λ s h.
    gathers_chain (x.conjunction_faults s (conjunction_of c.args.tree.now.first))
    (x.wants Boolean (conjunction_type s (conjunction_of c.args.tree.now.first))
    (conjunction_place (conjunction_of c.args.tree.now.first)))
    (x.conjunction_faults s (conjunction_of c.args.tree.now.second))
    (x.wants Boolean (conjunction_type s (conjunction_of c.args.tree.now.second))
    (conjunction_place (conjunction_of c.args.tree.now.second)))
    (x.conjunctions_faults s
    (conjunctions_in c.args.tree.now.rest.items)) c.args.least c.conjunction-first.result c.conjunction-all.result
    c.loop-further.all (c.conjunction-first.ensures s h) (c.conjunction-all.ensures s h)
    (subst (λ ms. Gathers (x.conjunctions_faults s (conjunctions_in ms)) c.conjunction-all.result
    c.loop-further.all)
    c.deref-further-items.ensures.value
    (c.loop-further.invariant s h c.loop-further.all
    (gathers_past
    (λ ms. x.conjunctions_faults s
    (conjunctions_in ms)) refl c.deref-further-items.result.now c.loop-further.further-index c.loop-further.all
    c.loop-further-test.false)))

pub judge_expression-returns-in-Factor-clause-least : goal.judge_expression-returns-in-Factor-clause-least
judge_expression-returns-in-Factor-clause-least t c = λ s h.
    subst (λ y. Gathers (x.expression_faults s (expression_of y)) c.args.least c.judge_factor.result.least)
    (sym c.in-Factor.is)
    (lone5 _ c.args.least c.judge_factor.result.least (c.judge_factor.ensures.least s h))

pub judge_sum-returns-in-Factor-clause-least : goal.judge_sum-returns-in-Factor-clause-least
judge_sum-returns-in-Factor-clause-least t c = λ s h.
    subst (λ y. Gathers (x.sum_faults s (sum_of y)) c.args.least c.judge_factor.result.least) (sym c.in-Factor.is)
    (lone2 _ c.args.least c.judge_factor.result.least (c.judge_factor.ensures.least s h))

pub judge_factor-returns-in-Name-clause-least : goal.judge_factor-returns-in-Name-clause-least
judge_factor-returns-in-Name-clause-least t c = λ s h.
    subst (λ y. Gathers (x.factor_faults s (factor_of y)) c.args.least c.judge_name.result.least) (sym c.in-Name.is)
    (c.judge_name.ensures.least s h)

pub judge_factor-returns-in-Element-clause-least : goal.judge_factor-returns-in-Element-clause-least
judge_factor-returns-in-Element-clause-least t c = λ s h.
    subst (λ y. Gathers (x.factor_faults s (factor_of y)) c.args.least c.element.result.least) (sym c.in-Element.is)
    (subst (λ y. Gathers (o.element s (name_of y.name) (expression_of y.index)) c.args.least c.element.result.least)
    c.deref.ensures (c.element.ensures.least s h))

pub judge_factor-returns-in-Number-clause-least : goal.judge_factor-returns-in-Number-clause-least
judge_factor-returns-in-Number-clause-least t c = λ s h.
    subst (λ y. Gathers (x.factor_faults s (factor_of y)) c.args.least c.args.least) (sym c.in-Number.is)
    (gathers_none c.args.least)

pub relation-returns-in-Factor : goal.relation-returns-in-Factor
relation-returns-in-Factor t c = λ s h.
    subst (λ y. Gathers (o.relation_operand s (relation_of y)) c.args.least c.factor_operand.result)
    (sym c.in-Factor.is) (behind3 (x.factor_faults s (factor_of c.in-Factor.tree))
    (x.wants Boolean (factor_type s (factor_of c.in-Factor.tree))
    (factor_place (factor_of c.in-Factor.tree))) c.args.least c.factor_operand.result
    (c.factor_operand.ensures s h))

pub conjunction-returns-in-Factor : goal.conjunction-returns-in-Factor
conjunction-returns-in-Factor t c = λ s h.
    subst (λ y. Gathers (o.conjunction_operand s (conjunction_of y)) c.args.least c.factor_operand.result)
    (sym c.in-Factor.is) (behind4 (x.factor_faults s (factor_of c.in-Factor.tree))
    (x.wants Boolean (factor_type s (factor_of c.in-Factor.tree))
    (factor_place (factor_of c.in-Factor.tree))) c.args.least c.factor_operand.result
    (c.factor_operand.ensures s h))

pub judge_expression-returns-in-Factor-clause-kind : goal.judge_expression-returns-in-Factor-clause-kind
judge_expression-returns-in-Factor-clause-kind t c = λ s h.
    c.judge_factor.ensures.kind s h ∙ ap (λ y. expression_type s (expression_of y)) (sym c.in-Factor.is)

pub judge_sum-returns-in-Factor-clause-kind : goal.judge_sum-returns-in-Factor-clause-kind
judge_sum-returns-in-Factor-clause-kind t c = λ s h.
    c.judge_factor.ensures.kind s h ∙ ap (λ y. sum_type s (sum_of y)) (sym c.in-Factor.is)

pub judge_factor-returns-in-Name-clause-kind : goal.judge_factor-returns-in-Name-clause-kind
judge_factor-returns-in-Name-clause-kind t c = λ s h.
    c.judge_name.ensures.kind s h ∙ ap (λ y. factor_type s (factor_of y)) (sym c.in-Name.is)

pub judge_factor-returns-in-Element-clause-kind : goal.judge_factor-returns-in-Element-clause-kind
judge_factor-returns-in-Element-clause-kind t c = λ s h.
    c.element.ensures.kind s h
    ∙ ap (λ y. factor_type s (Reads (name_of y.name) (At (expression_of y.index)))) c.deref.ensures
    ∙ ap (λ y. factor_type s (factor_of y)) (sym c.in-Element.is)

pub judge_factor-returns-in-Number-clause-kind : goal.judge_factor-returns-in-Number-clause-kind
judge_factor-returns-in-Number-clause-kind t c = λ s h. ap (λ y. factor_type s (factor_of y)) (sym c.in-Number.is)
