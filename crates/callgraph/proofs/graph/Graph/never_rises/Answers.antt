use Rattle.std.proofs.Common.{◌≤◌, ◌∙◌, subst, sym, slice_index_or, inl, inr, arith}
use Rattle.std.specs.Prelude.{Contains}
use Rattle.callgraph.specs.Calls.{IsCall}
use Rattle.callgraph.proofs.Falling.{caller_within}
use Rattle.callgraph.proofs.Rows.{is_listed}
use Rattle.callgraph.proofs.Settling.{up_to}
use Rattle.callgraph.proofs.graph.Graph.never_rises.Goals as goal

pub loop-procedure-preserved : goal.loop-procedure-preserved
loop-procedure-preserved c calls g a b l call =
    let i = c.loop-procedure.procedure in
    let levels = c.args.levels.now in
    elim (up_to i a l) [
      | inl k ↦ c.loop-procedure.invariant calls g a b k call
      | inr q ↦
          let called : IsCall calls i b = subst (λ x. IsCall calls x b) q call in
          let listed : Contains c.callees.result.now b = subst (λ xs. Contains xs b)
          (sym (c.callees.ensures ∙ g.rows i)) (is_listed calls i b called) in
          let most : slice_index_or levels b 0 ≤ slice_index_or levels i 0 = omega (
            arith,
            c.are_at_most.ensures c.if-not-are_at_most.false b listed,
            c.level_of.ensures.level,
          ) in
          subst (λ x. slice_index_or levels b 0 ≤ slice_index_or levels x 0) (sym q) most
    ]

pub returns : goal.returns
returns c h calls g a b call = c.loop-procedure.invariant calls g a b (let l = caller_within calls _ a b g.within call in
    omega (arith, l, c.loop-procedure-test.false, c.count-procedure-end.ensures)) call
