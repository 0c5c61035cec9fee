-- The thread's node leaves the chain of its address's bucket, and the table its place.
use Rattle.std.proofs.Common.{◌≡◌, ◌%◌, ◌-◌, Some, None, length, get_or, sym, ap, ◌∙◌, arith}
use Rattle.std.proofs.lemmas.List.{get_or_read}
use Rattle.buckets.proofs.Outcomes.{not_there}
use Rattle.buckets.proofs.Stores.{known, gone, in_places, stands_in, held_rows}
use Rattle.buckets.proofs.buckets.Buckets.drop_out.Goals as goal

pub index-requires : goal.index-requires
index-requires c =
    let b = c.self.inside in
    omega (
      arith,
      in_places b.nodes b.chains.items b.places.items b.holders.items c.args.t c.self.invariant
          (rw c.self.view_is c.requires),
    )

pub index_mut-requires-in-Some : goal.index_mut-requires-in-Some
index_mut-requires-in-Some c =
    let b = c.self.inside in
    omega (
      arith,
      in_places b.nodes b.chains.items b.places.items b.holders.items c.args.t c.self.invariant
          (rw c.self.view_is c.requires),
    )

pub unlink-requires : goal.unlink-requires
unlink-requires c =
    let b = c.self.inside in
    let i = c.self.invariant in
    let ek : c.bucket_of-bucket.result ≡ c.in-Some.a.0 % length b.chains.items = c.bucket_of-bucket.ensures
    ∙ ap (λ n. c.in-Some.a.0 % n) (omega arith) in
    let inside = in_places b.nodes b.chains.items b.places.items b.holders.items c.args.t i
    (rw c.self.view_is c.requires) in
    let at : get_or b.places.items c.args.t None ≡ Some c.in-Some.a = sym (get_or_read b.places.items c.args.t
    c.index.result.now inside c.index.ensures None) ∙ c.in-Some.is in
    let most : c.len-most.result - 1 ≡ length b.places.items - 1 = omega arith in
    let k = known b.nodes b.chains.items b.places.items b.holders.items c.in-Some.a.0 c.bucket_of-bucket.result
    c.index-in-Some.result.now
    i ek c.index-in-Some.ensures in
    rw most (record {
      chain = k.chain;
      once = k.once;
      there = stands_in b.nodes b.chains.items b.places.items b.holders.items c.args.t c.in-Some.a
          c.bucket_of-bucket.result
          c.index-in-Some.result.now i ek c.index-in-Some.ensures at;
    })

pub invariant_of-self : goal.invariant_of-self
invariant_of-self c =
    let b = c.self.inside in
    let i = c.self.invariant in
    let ek : c.bucket_of-bucket.result ≡ c.in-Some.a.0 % length b.chains.items = c.bucket_of-bucket.ensures
    ∙ ap (λ n. c.in-Some.a.0 % n) (omega arith) in
    let inside = in_places b.nodes b.chains.items b.places.items b.holders.items c.args.t i
    (rw c.self.view_is c.requires) in
    let at : get_or b.places.items c.args.t None ≡ Some c.in-Some.a = sym (get_or_read b.places.items c.args.t
    c.index.result.now inside c.index.ensures None) ∙ c.in-Some.is in
    let most : c.len-most.result - 1 ≡ length b.places.items - 1 = omega arith in
    (gone b.nodes c.unlink.new.nodes b.chains.items b.places.items b.holders.items c.args.t c.bucket_of-bucket.result
    c.in-Some.a
    c.index-in-Some.result.now c.unlink.result i inside at ek c.index-in-Some.ensures
    (rw most at c.unlink.ensures.chained) c.unlink.ensures.len).0

pub returns-in-Some : goal.returns-in-Some
returns-in-Some c =
    let b = c.self.inside in
    let i = c.self.invariant in
    let ek : c.bucket_of-bucket.result ≡ c.in-Some.a.0 % length b.chains.items = c.bucket_of-bucket.ensures
    ∙ ap (λ n. c.in-Some.a.0 % n) (omega arith) in
    let inside = in_places b.nodes b.chains.items b.places.items b.holders.items c.args.t i
    (rw c.self.view_is c.requires) in
    let at : get_or b.places.items c.args.t None ≡ Some c.in-Some.a = sym (get_or_read b.places.items c.args.t
    c.index.result.now inside c.index.ensures None) ∙ c.in-Some.is in
    let most : c.len-most.result - 1 ≡ length b.places.items - 1 = omega arith in
    let d = (gone b.nodes c.unlink.new.nodes b.chains.items b.places.items b.holders.items c.args.t
    c.bucket_of-bucket.result c.in-Some.a
    c.index-in-Some.result.now c.unlink.result i inside at ek c.index-in-Some.ensures
    (rw most at c.unlink.ensures.chained) c.unlink.ensures.len).1 in
    rw (← c.self.view_is) (record {
      queues = d.queues;
      places = d.places;
      holders = d.holders;
      threads = d.threads;
      sound = d.sound;
    })

pub returns-in_default : goal.returns-in_default
returns-in_default c =
    let b = c.self.inside in
    let inside = in_places b.nodes b.chains.items b.places.items b.holders.items c.args.t c.self.invariant
    (rw c.self.view_is c.requires) in
    let d = not_there b.places.items _ b.holders.items c.args.t c.self.invariant.consistent
    (held_rows b.nodes b.chains.items b.places.items b.holders.items c.self.invariant)
    (sym (get_or_read b.places.items c.args.t c.index.result.now inside c.index.ensures None) ∙ c.in_default.is)
    in
    rw (← c.self.view_is) (record {
      queues = d.queues;
      places = d.places;
      holders = d.holders;
      threads = d.threads;
      sound = d.sound;
    })
