use Rattle.std.proofs.Common.{◌≤◌, subst, sym, slice_index_or, inl, inr, arith}
use Rattle.std.specs.Prelude.{Contains}
use Rattle.std.proofs.lemmas.List.{take_more, take_all}
use Rattle.std.proofs.lemmas.List.Elements.{Contains-push_cases}
use Rattle.callgraph.proofs.levels.are_at_most.Goals as goal

pub loop-procedure-preserved : goal.loop-procedure-preserved
loop-procedure-preserved c b k =
    let ps = c.args.procedures.now in
    let i = c.loop-procedure.procedure-index in
    let p = slice_index_or ps i 0 in
    let here : slice_index_or c.args.levels.now p 0 ≤ c.args.level =
    omega (arith, c.level_of.ensures.level, c.if-level_of-level.false) in
    elim (Contains-push_cases _ p b (subst (λ xs. Contains xs b) (take_more ps i 0 c.loop-procedure-test.true) k)) [
      | inl j ↦ c.loop-procedure.invariant b j
      | inr s ↦ subst (λ x. slice_index_or c.args.levels.now x 0 ≤ c.args.level) s here
    ]

pub returns : goal.returns
returns c h b k = c.loop-procedure.invariant b (subst (λ xs. Contains xs b)
    (sym (take_all c.loop-procedure.procedure-index c.args.procedures.now (omega arith))) k)
