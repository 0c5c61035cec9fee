-- The chain of the address's bucket grows at its end, and the slab has room for that.
use Rattle.std.proofs.Common.{◌≡◌, ◌%◌, None, length, ap, ◌∙◌, arith}
use Rattle.slab.specs.Slab.{get}
use Rattle.buckets.proofs.Segments.{last_there}
use Rattle.buckets.proofs.Stores.{known, entered, in_places, free_in, room_for}
use Rattle.buckets.proofs.buckets.Buckets.enqueue.Goals as goal

pub append-requires : goal.append-requires
append-requires c =
    let b = c.self.inside in
    let i = c.self.invariant in
    let old = c.index.result.now in
    let ek : c.bucket_of-bucket.result ≡ c.args.a.0 % length b.chains.items = c.bucket_of-bucket.ensures
    ∙ ap (λ n. c.args.a.0 % n) (omega arith) in
    let inside = in_places b.nodes b.chains.items b.places.items b.holders.items c.args.t i
    (rw c.self.view_is c.requires.in_range.1) in
    let free = free_in b.nodes b.chains.items b.places.items b.holders.items c.args.t
    (rw c.self.view_is c.requires.awake) in
    record {
      room = omega (
        arith,
        i.counted,
        i.room,
        room_for b.places.items c.args.t c.args.a c.requires.in_range.0 inside i.consistent.no_zero free,
      );
      last = last_there (get b.nodes) old.first _ old.last None
          (known b.nodes b.chains.items b.places.items b.holders.items c.args.a.0
          c.bucket_of-bucket.result old i ek c.index.ensures).chain;
    }

pub index_mut-requires-2 : goal.index_mut-requires-2
index_mut-requires-2 c =
    let b = c.self.inside in
    omega (
      arith,
      in_places b.nodes b.chains.items b.places.items b.holders.items c.args.t c.self.invariant
          (rw c.self.view_is c.requires.in_range.1),
    )

pub invariant_of-self : goal.invariant_of-self
invariant_of-self c =
    let b = c.self.inside in
    let i = c.self.invariant in
    let ek : c.bucket_of-bucket.result ≡ c.args.a.0 % length b.chains.items = c.bucket_of-bucket.ensures
    ∙ ap (λ n. c.args.a.0 % n) (omega arith) in
    let inside = in_places b.nodes b.chains.items b.places.items b.holders.items c.args.t i
    (rw c.self.view_is c.requires.in_range.1) in
    let free = free_in b.nodes b.chains.items b.places.items b.holders.items c.args.t
    (rw c.self.view_is c.requires.awake) in
    (entered b.nodes c.append.new.nodes b.chains.items b.places.items b.holders.items
    (record { thread = c.args.t; address = c.args.a })
    c.bucket_of-bucket.result c.index.result.now c.append.result i c.requires.in_range.0 inside free ek c.index.ensures
    c.append.ensures.chained c.append.ensures.len).0

pub returns : goal.returns
returns c =
    let b = c.self.inside in
    let i = c.self.invariant in
    let ek : c.bucket_of-bucket.result ≡ c.args.a.0 % length b.chains.items = c.bucket_of-bucket.ensures
    ∙ ap (λ n. c.args.a.0 % n) (omega arith) in
    let inside = in_places b.nodes b.chains.items b.places.items b.holders.items c.args.t i
    (rw c.self.view_is c.requires.in_range.1) in
    let free = free_in b.nodes b.chains.items b.places.items b.holders.items c.args.t
    (rw c.self.view_is c.requires.awake) in
    let e = (entered b.nodes c.append.new.nodes b.chains.items b.places.items b.holders.items
    (record { thread = c.args.t; address = c.args.a }) c.bucket_of-bucket.result c.index.result.now c.append.result i
    c.requires.in_range.0 inside free ek c.index.ensures c.append.ensures.chained c.append.ensures.len).1 in
    rw (← c.self.view_is) (record {
      last = e.last;
      others = e.others;
      places = e.places;
      holders = e.holders;
      threads = e.threads;
      sound = e.sound;
    })
