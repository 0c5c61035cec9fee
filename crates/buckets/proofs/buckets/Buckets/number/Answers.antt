-- There are as many holders as chains.
use Rattle.std.proofs.Common.{◌≤◌, ◌%◌, length, ap, ◌∙◌, arith}
use Rattle.buckets.proofs.Holders.{number_in}
use Rattle.buckets.proofs.Rows.{mod_lt}
use Rattle.buckets.proofs.Stores.{sound_in, some_chain}
use Rattle.buckets.proofs.buckets.Buckets.number.Goals as goal

pub bucket_of-requires : goal.bucket_of-requires
bucket_of-requires c =
    let b = c.self.inside in
    omega (
      arith,
      c.self.invariant.held,
      some_chain b.nodes b.chains.items b.places.items b.holders.items
          c.self.invariant,
    )

pub returns : goal.returns
returns c =
    let b = c.self.inside in
    let some : 1 ≤ length b.holders.items = omega
    (arith, c.self.invariant.held, some_chain b.nodes b.chains.items b.places.items b.holders.items c.self.invariant) in
    let n = number_in b.nodes b.chains.items b.places.items b.holders.items c.len.result (omega arith) in
    let least : 1 ≤ c.len.result = omega (arith, some) in
    rw (← c.self.view_is) (record {
      value = c.bucket_of.ensures ∙ ap (λ m. c.args.a.0 % m) n;
      inside = omega (arith, n, c.bucket_of.ensures, mod_lt c.args.a.0 c.len.result least);
      sound = sound_in b.nodes b.chains.items b.places.items b.holders.items c.self.invariant;
    })
