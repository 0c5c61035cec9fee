-- The table has a place for each thread, and for 0.
use Rattle.std.proofs.Common.{arith}
use Rattle.buckets.specs.Sleepers.{thread_count}
use Rattle.buckets.proofs.Stores.{sound_in}
use Rattle.buckets.proofs.buckets.Buckets.threads.Goals as goal

pub returns : goal.returns
unfolding thread_count
returns c =
    let b = c.self.inside in
    rw (← c.self.view_is) (record {
      value = omega (arith, c.self.invariant.consistent.threads, c.self.invariant.consistent.few);
      sound = sound_in b.nodes b.chains.items b.places.items b.holders.items c.self.invariant;
    })
