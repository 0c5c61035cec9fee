-- The threads on the address stand in the chain of its bucket.
use Rattle.std.proofs.Common.{◌≡◌, ◌%◌, ◌-◌, length, take, ap, ◌∙◌, arith}
use Rattle.slab.specs.Slab.{get}
use Rattle.buckets.specs.Chains.{row_of}
use Rattle.buckets.proofs.Queues.{on}
use Rattle.buckets.proofs.Stores.{queue_in, some_chain, sound_in}
use Rattle.buckets.proofs.buckets.Buckets.threads_at.Goals as goal

pub bucket_of-bucket-requires : goal.bucket_of-bucket-requires
bucket_of-bucket-requires c =
    let b = c.self.inside in
    omega (arith, some_chain b.nodes b.chains.items b.places.items b.holders.items c.self.invariant)

pub index-requires : goal.index-requires
index-requires c =
    let b = c.self.inside in
    let ek : c.bucket_of-bucket.result ≡ c.args.a.0 % length b.chains.items = c.bucket_of-bucket.ensures
    ∙ ap (λ n. c.args.a.0 % n) (omega arith) in
    omega (arith, ek, some_chain b.nodes b.chains.items b.places.items b.holders.items c.self.invariant)

pub threads_on-requires : goal.threads_on-requires
threads_on-requires c = omega (arith, c.self.invariant.consistent.few)

pub returns : goal.returns
returns c =
    let b = c.self.inside in
    let ek : c.bucket_of-bucket.result ≡ c.args.a.0 % length b.chains.items = c.bucket_of-bucket.ensures
    ∙ ap (λ n. c.args.a.0 % n) (omega arith) in
    let most : c.len-2.result - 1 ≡ length b.places.items - 1 = omega arith in
    rw (← c.self.view_is) (record {
      value = c.threads_on.ensures ∙ ap (take c.args.n)
          (ap (λ m. on c.args.a.0 (row_of (get b.nodes) m c.index.result.now)) most
          ∙ queue_in b.nodes b.chains.items b.places.items b.holders.items c.args.a.0 c.bucket_of-bucket.result
          c.index.result.now
          c.self.invariant ek c.index.ensures);
      sound = sound_in b.nodes b.chains.items b.places.items b.holders.items c.self.invariant;
    })
