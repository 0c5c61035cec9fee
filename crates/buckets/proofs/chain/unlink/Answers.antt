-- The node before it leads to the one after it, or the chain begins there.
use Rattle.std.proofs.Common.{subst}
use Rattle.slab.specs.Slab.{get}
use Rattle.buckets.specs.Chains.{row_of, IsFound}
use Rattle.buckets.proofs.Links.{unlinked-first, unlinked-behind, before_there}
use Rattle.buckets.proofs.chain.unlink.Goals as goal

pub lead-requires : goal.lead-requires
lead-requires c =
    let at = get c.args.nodes.now in
    let row = row_of at c.args.most c.args.chain in
    let s = c.in-Some.spot in
    before_there c.args.nodes.now c.remove.new.self c.args.chain row c.args.thread s.key c.in-Some-before.before s.next
    (subst (λ b. IsFound at c.args.chain row c.args.thread (record { before = b; key = s.key; next = s.next }))
    c.in-Some-before.is c.in-Some.ensures.found) c.requires.once c.remove.ensures.updates

pub returns-in-Some-before-clause-chained : goal.returns-in-Some-before-clause-chained
returns-in-Some-before-clause-chained c =
    let at = get c.args.nodes.now in
    let row = row_of at c.args.most c.args.chain in
    let s = c.in-Some.spot in
    rw (c.last_after-last.ensures, c.in-Some-before.is) (unlinked-behind c.args.nodes.now c.remove.new.self
    c.lead.new.nodes c.args.chain row c.args.thread s.key c.in-Some-before.before s.next
    (subst (λ b. IsFound at c.args.chain row c.args.thread (record { before = b; key = s.key; next = s.next }))
    c.in-Some-before.is c.in-Some.ensures.found) c.requires.once c.remove.ensures.updates c.remove.ensures.capacity
    c.lead.ensures.leads c.lead.ensures.capacity)

pub returns-in-None-clause-chained : goal.returns-in-None-clause-chained
returns-in-None-clause-chained c =
    let at = get c.args.nodes.now in
    let row = row_of at c.args.most c.args.chain in
    let s = c.in-Some.spot in
    rw (c.last_after-last.ensures, c.in-None.is) (unlinked-first c.args.nodes.now c.remove.new.self c.args.chain row
    c.args.thread s.key s.next
    (subst (λ b. IsFound at c.args.chain row c.args.thread (record { before = b; key = s.key; next = s.next }))
    c.in-None.is c.in-Some.ensures.found) c.requires.once c.remove.ensures.updates c.remove.ensures.capacity)
