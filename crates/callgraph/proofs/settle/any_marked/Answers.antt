use Rattle.std.proofs.Common.{◌≡◌, subst, sym, slice_index_or, inl, inr, false, arith}
use Rattle.std.specs.Prelude.{Contains}
use Rattle.std.proofs.lemmas.List.{take_more, take_all, get_or_past}
use Rattle.std.proofs.lemmas.List.Elements.{Contains-push_cases}
use Rattle.callgraph.proofs.settle.any_marked.Goals.{else-number-marks-via-then-number-marks+else-marks-number}
use Rattle.callgraph.proofs.settle.any_marked.Goals.{else-number-marks-via-else-number-marks}
use Rattle.callgraph.proofs.settle.any_marked.Goals as goal

pub loop-procedure-preserved : goal.loop-procedure-preserved
loop-procedure-preserved c b k =
    let ps = c.args.procedures.now in
    let i = c.loop-procedure.procedure-index in
    let p = slice_index_or ps i 0 in
    let here : slice_index_or c.args.marks.now p false ≡ false = elim c.else-number-marks.branch [
      | else-number-marks-via-then-number-marks+else-marks-number w ↦ w.if-marks-number.false
      | else-number-marks-via-else-number-marks w ↦ get_or_past c.args.marks.now p false w.if-number-marks.false
    ] in
    elim (Contains-push_cases _ p b (subst (λ xs. Contains xs b) (take_more ps i 0 c.loop-procedure-test.true) k)) [
      | inl j ↦ c.loop-procedure.invariant b j
      | inr s ↦ subst (λ x. slice_index_or c.args.marks.now x false ≡ false) s here
    ]

pub returns-clause-none : goal.returns-clause-none
returns-clause-none c h b k = c.loop-procedure.invariant b (subst (λ xs. Contains xs b)
    (sym (take_all c.loop-procedure.procedure-index c.args.procedures.now (omega arith))) k)
