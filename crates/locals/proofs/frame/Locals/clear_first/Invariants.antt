use Rattle.std.proofs.Common.{◌-◌, ◌≡◌, ◌≤◌, ◌++◌, drop, replicate}
use Rattle.locals.proofs.frame.Locals.clear_first.Given as goal

abbrev pub invariant-loop-i : goal.invariant-loop-i
invariant-loop-i l = record {
  cleared : l.self.values ≡ replicate l.i 0 ++ drop l.i l.fn.self.values;
  within : l.i ≤ l.used;
}

abbrev pub decreases-loop-i : goal.decreases-loop-i
decreases-loop-i l = l.used - l.i
