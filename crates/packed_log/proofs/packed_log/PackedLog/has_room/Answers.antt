use Rattle.std.proofs.Common.{length, ap, arith}
use Rattle.std.proofs.lemmas.Bool.{ltb-true}
use Rattle.packed_log.specs.Views.{PackedView}
use Rattle.packed_log.proofs.Entries.{items_length}
use Rattle.packed_log.proofs.packed_log.PackedLog.has_room.Goals as goal

-- there is room for one more, so they are fewer
pub returns-clause-few : goal.returns-clause-few
returns-clause-few c = λ some.
    let s = c.self.inside in
    omega (
      arith,
      items_length s.heads.items s.wide.items s.sets.items,
      ap (λ (v : PackedView). length v.items) c.self.view_is,
      c.self.invariant.1,
      ltb-true 0 s.spare some,
      s.heads.ok.0,
      s.wide.ok.0,
    )
