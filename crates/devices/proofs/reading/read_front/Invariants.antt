use Rattle.std.proofs.Common.{◌≤◌, ◌⊎◌, length}
use Rattle.std.specs.Io.KnownBytes.{Consumes}
use Rattle.devices.specs.Counting.{HasFailed, failures_of, inner_of}
use Rattle.devices.proofs.reading.read_front.Given as goal

abbrev pub invariant-loop : goal.invariant-loop
invariant-loop g l = record {
  read : Consumes (g.R.Read.remaining (inner_of l.initial.reader)) (g.R.Read.remaining (inner_of l.reader)) l.bytes.items;
  few : length l.bytes.items ≤ l.wanted;
  counted : failures_of l.initial.reader ≤ failures_of l.reader;
  calls : HasFailed l.initial.reader l.reader ⊎ (l.counter ≤ length l.bytes.items);
}
