-- The table of holders has a place for the bucket.
use Rattle.std.proofs.Common.{None, arith}
use Rattle.std.proofs.lemmas.List.{get_or_read}
use Rattle.buckets.specs.Sleepers.{holder_of}
use Rattle.buckets.proofs.Holders.{inside_table}
use Rattle.buckets.proofs.Stores.{sound_in}
use Rattle.buckets.proofs.buckets.Buckets.holder.Goals as goal

pub index-requires : goal.index-requires
index-requires c =
    let b = c.self.inside in
    omega (
      arith,
      inside_table b.nodes b.chains.items b.places.items b.holders.items c.args.k (rw c.self.view_is c.requires),
    )

pub returns : goal.returns
unfolding holder_of
returns c =
    let b = c.self.inside in
    let l = inside_table b.nodes b.chains.items b.places.items b.holders.items c.args.k
    (rw c.self.view_is c.requires) in
    rw (← c.self.view_is) (record {
      value = get_or_read b.holders.items c.args.k c.index.result.now l c.index.ensures None;
      sound = sound_in b.nodes b.chains.items b.places.items b.holders.items c.self.invariant;
    })
