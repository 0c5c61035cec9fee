-- A chain has no more threads than the table.
use Rattle.std.proofs.Common.{◌-◌, ◌≤◌, length, ◌∙◌, arith}
use Rattle.std.proofs.lemmas.List.{take_all}
use Rattle.buckets.specs.Sleepers.{queue}
use Rattle.buckets.proofs.Stores.{few_in}
use Rattle.buckets.proofs.buckets.Buckets.sleepers.Goals as goal

pub returns-clause-value : goal.returns-clause-value
returns-clause-value c =
    let b = c.self.inside in
    let few : length (queue c.args.self.now c.args.a.0) ≤ c.len.result - 1 = omega (
      arith,
      rw c.self.view_is at
          (few_in b.nodes b.chains.items b.places.items b.holders.items c.args.a.0 c.self.invariant),
    ) in
    c.threads_at.ensures.value ∙ take_all (c.len.result - 1) (queue c.args.self.now c.args.a.0) few
