use Rattle.std.proofs.Common.{◌∙◌, ap, sym, slice_index_or, false, arith}
use Rattle.callgraph.proofs.Marking.{written_back}
use Rattle.callgraph.proofs.Settling.{goes_on}
use Rattle.callgraph.proofs.graph.Graph.endless_chains.Goals as goal

pub returns-clause-every : goal.returns-clause-every
returns-clause-every c calls g a n h =
    goes_on calls c.deref_mut.result.now (c.sweep.ensures.call_marked c.sweeps-test.false calls g) n a
    (ap (λ xs. slice_index_or xs a false) (sym (c.sweep.ensures.same c.sweeps-test.false)
    ∙ sym (written_back _ _ _ (grind arith))) ∙ h)
