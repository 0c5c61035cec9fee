use Rattle.std.proofs.Common.{List, length, ap, arith}
use Rattle.machine.specs.declared.event.Entry.{Entry}
use Rattle.packed_log.proofs.Entries.{left_length}
use Rattle.packed_log.proofs.reader.LogReader.len.Goals as goal

pub returns : goal.returns
returns c =
    let s = c.self.inside in
    omega (
      arith,
      left_length s.heads.now s.wide.now s.sets.now s.whole.now,
      ap (λ (entries : List Entry). length entries) c.self.view_is,
    )
