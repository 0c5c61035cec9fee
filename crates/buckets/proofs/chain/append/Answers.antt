-- The new node stands alone, or behind the last one.
use Rattle.std.proofs.Common.{None, subst}
use Rattle.slab.specs.Slab.{get}
use Rattle.buckets.specs.Chains.{Segment}
use Rattle.buckets.proofs.Links.{appended-first, appended-last}
use Rattle.buckets.proofs.chain.append.Goals as goal

pub returns-in-Some-clause-chained : goal.returns-in-Some-clause-chained
returns-in-Some-clause-chained c = λ row g once.
    let i = c.insert_reserved.ensures in
    appended-last c.args.nodes.now c.insert_reserved.new.self c.lead.new.nodes c.args.chain.first c.in-Some.last row
    c.args.sleeper c.insert_reserved.result
    (subst (λ l. Segment (get c.args.nodes.now) None c.args.chain.first row l None) c.in-Some.is g) once i.was_vacant
    i.updates i.capacity c.lead.ensures.leads c.lead.ensures.capacity

pub returns-in-None-clause-chained : goal.returns-in-None-clause-chained
returns-in-None-clause-chained c = λ row g once.
    let i = c.insert_reserved.ensures in
    appended-first c.args.nodes.now c.insert_reserved.new.self c.args.chain.first row c.args.sleeper
    c.insert_reserved.result (subst (λ l. Segment (get c.args.nodes.now) None c.args.chain.first row l None)
    c.in-None.is g) i.was_vacant i.updates i.capacity
