use Rattle.slab.specs.Slab.{get}
use Rattle.buckets.specs.Chains.{node_at, row_of}
use Rattle.buckets.proofs.Gathers.{Gathered}
use Rattle.buckets.proofs.chain.threads_on.Given as goal

abbrev pub invariant-loop : goal.invariant-loop
invariant-loop l =
    Gathered (get l.nodes) l.a.0 l.most l.n (row_of (get l.nodes) l.most l.fn.chain) (node_at (get l.nodes) l.here)
    l.threads l.counter
