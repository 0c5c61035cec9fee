-- The table has a place for the thread.
use Rattle.std.proofs.Common.{None, ap, arith}
use Rattle.std.specs.Option.{option_map}
use Rattle.std.proofs.lemmas.List.{get_or_read}
use Rattle.buckets.specs.Sleepers.{place_of}
use Rattle.buckets.proofs.Stores.{in_places, sound_in}
use Rattle.buckets.proofs.buckets.Buckets.asleep.Goals as goal

pub index-requires : goal.index-requires
index-requires c =
    let b = c.self.inside in
    omega (
      arith,
      in_places b.nodes b.chains.items b.places.items b.holders.items c.args.thread c.self.invariant
          (rw c.self.view_is c.requires),
    )

pub returns : goal.returns
unfolding place_of
returns c =
    let b = c.self.inside in
    let l = in_places b.nodes b.chains.items b.places.items b.holders.items c.args.thread c.self.invariant
    (rw c.self.view_is c.requires)
    in
    rw (← c.self.view_is) (record {
      value = ap (option_map (λ a. a.0)) (get_or_read b.places.items c.args.thread c.index.result.now l
          c.index.ensures None);
      sound = sound_in b.nodes b.chains.items b.places.items b.holders.items c.self.invariant;
    })
