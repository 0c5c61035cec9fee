use Rattle.std.proofs.Common.{ℕ, ◌≡◌, map, take, length, slice_get, Some}
use Rattle.syntax.specs.View.{monitor_of}
use Rattle.syntax.specs.Whole.{unit_of}
use Rattle.types.specs.Pieces.{pieces_from}
use Rattle.types.specs.Tables.{IsTable}
use Rattle.callees.specs.declared.monitor_names.MonitorNames.{MonitorNames}
use Rattle.callees.specs.Names.{IsNames}
use Rattle.callees.specs.Pieces.{piece_of}
use Rattle.callees.proofs.declared.Declared.new.Given as goal

abbrev pub invariant-loop-number : goal.invariant-loop-number
invariant-loop-number l = record {
  names : IsTable (map (λ m. m.name) (map monitor_of (take l.number l.monitor-items))) l.declared.names;
  pieces : map piece_of l.declared.pieces.items ≡ pieces_from 0 (map monitor_of (take l.number l.monitor-items));
  all : length l.declared.inner.items ≡ l.number;
  inner : (m : ℕ) (n : MonitorNames) → slice_get l.declared.inner.items m ≡ Some n → IsNames (unit_of l.fn.unit) m n;
}
