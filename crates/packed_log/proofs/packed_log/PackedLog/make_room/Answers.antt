use Rattle.std.proofs.Common.{length, ap, arith}
use Rattle.packed_log.specs.Views.{PackedView}
use Rattle.packed_log.proofs.Entries.{items_length}
use Rattle.packed_log.proofs.packed_log.PackedLog.make_room.Goals as goal

-- there is room for one more, so they are fewer
pub returns-then-self-gt0-clause-few : goal.returns-then-self-gt0-clause-few
returns-then-self-gt0-clause-few c =
    let s = c.self.inside in
    omega (
      arith,
      items_length s.heads.items s.wide.items s.sets.items,
      ap (λ (v : PackedView). length v.items) c.self.view_is,
      c.self.invariant.1,
      c.if-self-gt0.true,
      s.heads.ok.0,
      s.wide.ok.0,
    )
