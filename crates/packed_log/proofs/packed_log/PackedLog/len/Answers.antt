use Rattle.std.proofs.Common.{length, ap, arith}
use Rattle.packed_log.specs.Views.{PackedView}
use Rattle.packed_log.proofs.Entries.{items_length}
use Rattle.packed_log.proofs.packed_log.PackedLog.len.Goals as goal

pub returns : goal.returns
returns c =
    let s = c.self.inside in
    omega (
      arith,
      c.len.ensures,
      c.len-2.ensures,
      s.heads.ok.0,
      s.wide.ok.0,
      items_length s.heads.items s.wide.items s.sets.items,
      ap (λ (v : PackedView). length v.items) c.self.view_is,
    )
