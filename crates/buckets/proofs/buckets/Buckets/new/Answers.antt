-- Nobody sleeps in chains without a node.
use Rattle.std.proofs.Common.{◌≡◌, ◌+◌, replicate, rules}
use Rattle.buckets.proofs.Outcomes.{some_bucket, nobody_at, no_holder}
use Rattle.buckets.proofs.Stores.{made, nobody_in}
use Rattle.buckets.proofs.buckets.Buckets.new.Goals as goal

pub invariant_of-result : goal.invariant_of-result
invariant_of-result c =
    let chains : c.in_ok-vec.field-0.items ≡ replicate c.args.n nobody_in = c.in_ok-vec.ensures.items_if_clones_equal
    (λ y k. search rules) in
    let places : c.in_ok-vec-2.field-0.items ≡ replicate (c.args.threads + 1) nobody_at = c.in_ok-vec-2.ensures.items_if_clones_equal
    (λ y k. search rules) in
    let holders : c.in_ok-vec-3.field-0.items ≡ replicate c.args.n
    no_holder = c.in_ok-vec-3.ensures.items_if_clones_equal
    (λ y k. search rules) in
    let s = c.in_ok-with_capacity.ensures in
    (made c.in_ok-with_capacity.field-0 c.in_ok-vec.field-0.items c.in_ok-vec-2.field-0.items
    c.in_ok-vec-3.field-0.items c.args.n c.args.threads
    s.empty chains places holders s.capacity c.requires.few (some_bucket c.args.n c.requires.allowed)).0

pub returns : goal.returns
returns c =
    let chains : c.in_ok-vec.field-0.items ≡ replicate c.args.n nobody_in = c.in_ok-vec.ensures.items_if_clones_equal
    (λ y k. search rules) in
    let places : c.in_ok-vec-2.field-0.items ≡ replicate (c.args.threads + 1) nobody_at = c.in_ok-vec-2.ensures.items_if_clones_equal
    (λ y k. search rules) in
    let holders : c.in_ok-vec-3.field-0.items ≡ replicate c.args.n
    no_holder = c.in_ok-vec-3.ensures.items_if_clones_equal
    (λ y k. search rules) in
    let s = c.in_ok-with_capacity.ensures in
    let o = (made c.in_ok-with_capacity.field-0 c.in_ok-vec.field-0.items c.in_ok-vec-2.field-0.items
    c.in_ok-vec-3.field-0.items c.args.n
    c.args.threads s.empty chains places holders s.capacity c.requires.few
    (some_bucket c.args.n c.requires.allowed)).1 in
    record { empty = o.empty; awake = o.awake; threads = o.threads; count = o.count; free = o.free; sound = o.sound }
