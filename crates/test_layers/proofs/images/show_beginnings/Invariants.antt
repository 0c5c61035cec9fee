use Rattle.std.proofs.Common.{◌≤◌}
use Rattle.test_layers.proofs.images.show_beginnings.Given as goal

abbrev pub invariant-loop-len : goal.invariant-loop-len
invariant-loop-len l = l.short ≤ l.len
