use Rattle.std.proofs.Common.{◌≡◌, map, drop}
use Rattle.linker.specs.Collecting.{has_gap, slot_of}
use Rattle.linker.proofs.collector.lacks_piece.Given as goal

-- it is decided by what is left
abbrev pub invariant-loop-slot : goal.invariant-loop-slot
invariant-loop-slot l = has_gap (map slot_of (drop l.slot-index l.slots)) ≡ has_gap (map slot_of l.slots)
