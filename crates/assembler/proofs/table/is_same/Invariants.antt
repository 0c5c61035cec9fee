use Rattle.std.proofs.Common.{◌≡◌, take}
use Rattle.assembler.proofs.table.is_same.Given as goal

abbrev pub invariant-loop-i : goal.invariant-loop-i
invariant-loop-i l = take l.i l.text ≡ take l.i l.other
