use Rattle.std.proofs.Common.{◌≤◌, ◌+◌, ◌^◌, length, ap, arith, rules}
use Rattle.packed_log.specs.Packing.{entries_of, heads_of}
use Rattle.packed_log.proofs.Entries.{items_length}
use Rattle.packed_log.proofs.packed_log.PackedLog.grow.Goals as goal

pub returns-clause-few : goal.returns-clause-few
returns-clause-few c =
    let s = c.self.inside in
    let heads = c.grow_heads.new.heads.items in
    let sets = c.reserve.new.self.items in
    let wide = c.reserve-2.new.self.items in
    let few : length (entries_of (heads_of heads wide) sets) + 64 ≤ 2 ^ 64 =
    omega (
      arith,
      items_length heads wide sets,
      ap length c.grow_heads.ensures.same,
      ap length c.reserve-2.ensures.items,
      s.heads.ok.0,
      s.wide.ok.0,
    ) in
    search rules
