use Rattle.std.proofs.Common.{◌≡◌, ◌≤◌, ◌⊎◌}
use Rattle.std.specs.Io.KnownBytes.{Keeps}
use Rattle.devices.specs.Counting.{HasFailed, failures_of, inner_of}
use Rattle.devices.proofs.writing.flush.Given as goal

abbrev pub invariant-loop : goal.invariant-loop
invariant-loop g l = record {
  kept : Keeps (g.W.Write.contents (inner_of l.initial.writer)) (g.W.Write.contents (inner_of l.writer));
  counted : failures_of l.initial.writer ≤ failures_of l.writer;
  failed : HasFailed l.initial.writer l.writer ⊎ (l.counter ≡ 0);
}
