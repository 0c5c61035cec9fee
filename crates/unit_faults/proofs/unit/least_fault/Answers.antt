use Rattle.std.proofs.Common.{◌≡◌, ◌<◌, ◌+◌, ◌-◌, ◌^◌, ◌∙◌, ap, sym, subst, length, None, map}
use Rattle.std.specs.List.{All}
use Rattle.std.proofs.lemmas.Result.{IfOk-weaker}
use Rattle.callgraph.specs.Calls.{Within}
use Rattle.syntax.specs.Whole.{unit_of}
use Rattle.callees.specs.Pieces.{piece_of}
use Rattle.types.specs.Judgement.{IsInBody}
use Rattle.types.specs.Pieces.{pieces}
use Rattle.unit_faults.specs.Collected.{Collects, InOne}
use Rattle.unit_faults.specs.Parts.{InOuter, InPiece, InCalls}
use Rattle.unit_faults.proofs.Callable.{calls_within}
use Rattle.unit_faults.proofs.Collecting.{collects_none, collects_sum}
use Rattle.unit_faults.proofs.Few.{few_outer, few_inner, few_names, few_pieces, piece_count}
use Rattle.unit_faults.proofs.Verdicts.{verdict}
use Rattle.unit_faults.proofs.unit.least_fault.Goals as goal

pub outer-requires-clause-outer : goal.outer-requires-clause-outer
outer-requires-clause-outer c = few_outer c.args.unit.now c.requires.callees.few

pub outer-requires-clause-inner : goal.outer-requires-clause-inner
outer-requires-clause-inner c = few_inner c.args.unit.now c.requires.callees.few

pub inner-requires : goal.inner-requires
inner-requires c =
    subst (λ ps. All (λ p. length p.parameters.now + length p.body.now.locals.items < 2 ^ 32 - 1) ps)
    (sym c.deref.ensures.value) (few_names (unit_of c.args.unit.now) c.args.callees.now c.requires.callees)

pub circular-requires-clause-few : goal.circular-requires-clause-few
circular-requires-clause-few c = subst (λ ps. length ps < 2 ^ 32) (sym c.deref-2.ensures.value)
    (few_pieces (unit_of c.args.unit.now) c.args.callees.now c.requires.callees)

pub circular-requires-clause-within : goal.circular-requires-clause-within
circular-requires-clause-within c =
    let u = unit_of c.args.unit.now in
    let count : length (pieces u) ≡ length c.deref-2.result.now =
    sym (ap length c.deref-2.ensures.value ∙ piece_count u c.args.callees.now c.requires.callees) in
    subst (λ n. Within c.args.calls.now n) count
    (subst (λ cs. Within cs (length (pieces u))) (sym c.requires.calls) (calls_within u))

pub bodies-requires : goal.bodies-requires
bodies-requires c = few_names (unit_of c.args.unit.now) c.args.callees.now c.requires.callees

pub returns-then-are_bodies_clean : goal.returns-then-are_bodies_clean
returns-then-are_bodies_clean c =
    let u = unit_of c.args.unit.now in
    let r = c.in_ok-called.called in
    let h = c.requires.callees in
    let declared = subst (λ qs. Collects (InOne InPiece qs) c.in_ok-outside.outside c.in_ok-declared.declared)
    (ap (map piece_of) c.deref.ensures.value ∙ h.pieces) c.in_ok-declared.ensures in
    let called = c.in_ok-called.ensures u (ap (map piece_of) c.deref-2.ensures.value ∙ h.pieces) c.requires.calls in
    verdict u r (collects_sum _ (IsInBody u) None r r
    (collects_sum _ (InCalls u) None c.in_ok-declared.declared r
    (collects_sum (InOuter u) (InOne InPiece (pieces u)) None c.in_ok-outside.outside c.in_ok-declared.declared
    c.in_ok-outside.ensures declared) called)
    (collects_none (IsInBody u) r (c.requires.clean c.if-are_bodies_clean.true)))

pub returns : goal.returns
returns c =
    let u = unit_of c.args.unit.now in
    let h = c.requires.callees in
    let declared = subst (λ qs. Collects (InOne InPiece qs) c.in_ok-outside.outside c.in_ok-declared.declared)
    (ap (map piece_of) c.deref.ensures.value ∙ h.pieces) c.in_ok-declared.ensures in
    let called = c.in_ok-called.ensures u (ap (map piece_of) c.deref-2.ensures.value ∙ h.pieces) c.requires.calls in
    IfOk-weaker c.bodies.result _ _
    (λ r w. verdict u r (collects_sum _ (IsInBody u) None c.in_ok-called.called r
    (collects_sum _ (InCalls u) None c.in_ok-declared.declared c.in_ok-called.called
    (collects_sum (InOuter u) (InOne InPiece (pieces u)) None c.in_ok-outside.outside c.in_ok-declared.declared
    c.in_ok-outside.ensures declared) called) w)) (c.bodies.ensures u h)
