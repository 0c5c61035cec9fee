-- Of each node on the way the thread is noted, or it sleeps on another address.
use Rattle.std.proofs.Common.{sym, ◌∙◌, arith}
use Rattle.slab.specs.Slab.{get}
use Rattle.buckets.specs.Chains.{node_at, row_of}
use Rattle.buckets.proofs.Gathers.{Gathered-none, Gathered-full, Gathered-end, Gathered-past, Gathered-here}
use Rattle.buckets.proofs.Gathers.{Gathered-elsewhere}
use Rattle.buckets.proofs.chain.threads_on.Goals as goal
use Rattle.buckets.proofs.chain.threads_on.Goals.{then-at-a, else-at-a}

pub loop-init : goal.loop-init
loop-init c =
    let at = get c.args.nodes.now in
    rw c.clear.ensures (Gathered-none at c.args.a.0 c.args.most c.args.n (node_at at c.args.chain.first))

pub push-requires : goal.push-requires
push-requires c = omega (arith, c.loop.invariant.passed, c.loop-test.true)

pub loop-preserved : goal.loop-preserved
loop-preserved c =
    let at = get c.args.nodes.now in
    let row = row_of at c.args.most c.args.chain in
    let here = node_at at c.loop.here in
    let is = sym c.node.ensures ∙ c.in-Some.is in
    elim c.if-at-a.branch [
      | then-at-a w ↦ rw (w.threads-is, w.push.ensures) (Gathered-here at c.args.a.0 c.args.most c.args.n row here
          c.loop.threads c.loop.counter c.in-Some.at c.loop.invariant c.loop-test.true (λ e. c.if-len-n.false (c.len.ensures.value ∙ e)) is w.if-at-a.true)
      | else-at-a w ↦ rw w.threads-is (Gathered-elsewhere at c.args.a.0 c.args.most c.args.n row here c.loop.threads
          c.loop.counter c.in-Some.at c.loop.invariant c.loop-test.true is w.if-at-a.false)
    ]

pub returns : goal.returns
returns c =
    let at = get c.args.nodes.now in
    Gathered-past at c.args.a.0 c.args.most c.args.n (row_of at c.args.most c.args.chain) (node_at at c.loop.here)
    c.loop.threads c.loop.counter c.loop.invariant c.loop-test.false

pub returns-then-len-n : goal.returns-then-len-n
returns-then-len-n c =
    let at = get c.args.nodes.now in
    Gathered-full at c.args.a.0 c.args.most c.args.n (row_of at c.args.most c.args.chain) (node_at at c.loop.here)
    c.loop.threads c.loop.counter c.loop.invariant (sym c.len.ensures.value ∙ c.if-len-n.true)

pub returns-in_default : goal.returns-in_default
returns-in_default c =
    let at = get c.args.nodes.now in
    Gathered-end at c.args.a.0 c.args.most c.args.n (row_of at c.args.most c.args.chain) (node_at at c.loop.here)
    c.loop.threads c.loop.counter c.loop.invariant (sym c.node.ensures ∙ c.in_default.is)
