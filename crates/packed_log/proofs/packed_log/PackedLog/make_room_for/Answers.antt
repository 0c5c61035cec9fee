use Rattle.std.proofs.Common.{length, ap, arith}
use Rattle.packed_log.specs.Views.{PackedView}
use Rattle.packed_log.proofs.Entries.{items_length}
use Rattle.packed_log.proofs.packed_log.PackedLog.make_room_for.Goals as goal

-- so few more that they can be counted
pub returns-then-self-count-clause-few : goal.returns-then-self-count-clause-few
returns-then-self-count-clause-few c =
    let s = c.self.inside in
    omega (
      arith,
      items_length s.heads.items s.wide.items s.sets.items,
      ap (λ (v : PackedView). length v.items) c.self.view_is,
      c.requires,
      s.heads.ok.0,
      s.wide.ok.0,
    )
