-- The lists and the table say the same.
use Rattle.buckets.proofs.Stores.{sound_in}
use Rattle.buckets.proofs.buckets.Buckets.nobody.Goals as goal

pub returns-clause-sound : goal.returns-clause-sound
returns-clause-sound c =
    let b = c.self.inside in
    rw (← c.self.view_is) (sound_in b.nodes b.chains.items b.places.items b.holders.items c.self.invariant)
