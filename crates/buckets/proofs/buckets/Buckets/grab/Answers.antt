-- One place of the table of holders changes.
use Rattle.std.proofs.Common.{Some, arith}
use Rattle.buckets.proofs.Holders.{inside_table, changed}
use Rattle.buckets.proofs.buckets.Buckets.grab.Goals as goal

pub index_mut-requires : goal.index_mut-requires
index_mut-requires c =
    let b = c.self.inside in
    omega (
      arith,
      inside_table b.nodes b.chains.items b.places.items b.holders.items c.args.k
          (rw c.self.view_is c.requires.inside),
    )

pub invariant_of-self : goal.invariant_of-self
invariant_of-self c =
    let b = c.self.inside in
    let l = inside_table b.nodes b.chains.items b.places.items b.holders.items c.args.k
    (rw c.self.view_is c.requires.inside) in
    (changed b.nodes b.chains.items b.places.items b.holders.items c.args.k (Some c.args.t) c.self.invariant l).0

pub returns : goal.returns
returns c =
    let b = c.self.inside in
    let l = inside_table b.nodes b.chains.items b.places.items b.holders.items c.args.k
    (rw c.self.view_is c.requires.inside) in
    let h = (changed b.nodes b.chains.items b.places.items b.holders.items c.args.k (Some c.args.t) c.self.invariant
    l).1 in
    rw (← c.self.view_is) (record {
      holder = h.holder;
      count = h.count;
      queues = h.queues;
      places = h.places;
      threads = h.threads;
      sound = h.sound;
    })
