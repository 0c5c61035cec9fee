use Rattle.slab.specs.Slab.{get}
use Rattle.buckets.specs.Chains.{row_of}
use Rattle.buckets.proofs.Finds.{Passed}
use Rattle.buckets.proofs.chain.find.Given as goal

abbrev pub invariant-loop : goal.invariant-loop
invariant-loop l =
    Passed (get l.nodes) l.fn.chain (row_of (get l.nodes) l.most l.fn.chain) l.thread l.most l.before l.here l.counter
