-- A writer that fails behind a front of the bytes.
use Rattle.std.proofs.Common.{◌≡◌, ◌≤◌, ℕ, List, ◌++◌, Option, length}
use Rattle.std.specs.Io.KnownBytes.{Appends, Keeps}
use Rattle.devices.specs.Counting.{HasFailed, failures_of, inner_of}
use Rattle.devices.specs.Writing.{HasFront}
use Rattle.devices.specs.declared.counted.Counted.{Counted}
use Rattle.devices.proofs.Counts.{risen_since}
use Rattle.devices.proofs.Fronts.{appended_kept, front_written}

pub fails_behind : {W : Type 0} (contents : W → Option (List ℕ)) (old mid new : Counted W) (all done rest : List ℕ)
    → failures_of old ≤ failures_of mid → all ≡ done ++ rest
    → Appends (contents (inner_of old)) (contents (inner_of mid)) done
    → Keeps (contents (inner_of mid)) (contents (inner_of new)) → HasFailed mid new → HasFront contents old new all
fails_behind contents old mid new all done rest before split wrote kept failed = record {
  failed = risen_since (failures_of old) (failures_of mid) (failures_of new) before failed;
  count = length done;
  front = front_written (contents (inner_of old)) (contents (inner_of new)) all done rest split
      (appended_kept (contents (inner_of old)) (contents (inner_of mid)) (contents (inner_of new)) done wrote kept);
}
