-- Where the bucket's chain has no node nobody sleeps on the address.
use Rattle.std.proofs.Common.{◌≡◌, ◌%◌, [], length, take, drop, ap, sym, ◌∙◌, arith}
use Rattle.std.proofs.Math.Seq.{take-nil, drop-nil}
use Rattle.buckets.specs.Sleepers.{queue}
use Rattle.buckets.proofs.Stores.{none_in, some_chain}
use Rattle.buckets.proofs.buckets.Buckets.take.Goals as goal

pub bucket_of-bucket-requires : goal.bucket_of-bucket-requires
bucket_of-bucket-requires c =
    let b = c.self.inside in
    omega (arith, some_chain b.nodes b.chains.items b.places.items b.holders.items c.self.invariant)

pub index-requires : goal.index-requires
index-requires c =
    let b = c.self.inside in
    let ek : c.bucket_of-bucket.result ≡ c.args.a.0 % length b.chains.items = c.bucket_of-bucket.ensures
    ∙ ap (λ n. c.args.a.0 % n) (omega arith) in
    omega (arith, ek, some_chain b.nodes b.chains.items b.places.items b.holders.items c.self.invariant)

pub returns-then-is_none-clause-taken : goal.returns-then-is_none-clause-taken
returns-then-is_none-clause-taken c =
    let b = c.self.inside in
    let ek : c.bucket_of-bucket.result ≡ c.args.a.0 % length b.chains.items = c.bucket_of-bucket.ensures
    ∙ ap (λ n. c.args.a.0 % n) (omega arith) in
    let empty : queue c.args.self.now c.args.a.0 ≡ [] =
    rw c.self.view_is at (none_in b.nodes b.chains.items b.places.items b.holders.items c.args.a.0
    c.bucket_of-bucket.result c.index.result.now c.self.invariant ek c.index.ensures c.if-is_none.ensures) in
    c.nobody.ensures.none ∙ sym (ap (take c.args.n) empty ∙ take-nil c.args.n)

pub returns-then-is_none-clause-rest : goal.returns-then-is_none-clause-rest
returns-then-is_none-clause-rest c =
    let b = c.self.inside in
    let ek : c.bucket_of-bucket.result ≡ c.args.a.0 % length b.chains.items = c.bucket_of-bucket.ensures
    ∙ ap (λ n. c.args.a.0 % n) (omega arith) in
    let empty : queue c.args.self.now c.args.a.0 ≡ [] =
    rw c.self.view_is at (none_in b.nodes b.chains.items b.places.items b.holders.items c.args.a.0
    c.bucket_of-bucket.result c.index.result.now c.self.invariant ek c.index.ensures c.if-is_none.ensures) in
    empty ∙ sym (ap (drop c.args.n) empty ∙ drop-nil c.args.n)
