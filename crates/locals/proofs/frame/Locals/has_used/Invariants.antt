use Rattle.std.proofs.Common.{◌-◌, ◌≡◌, ◌≤◌, take}
use Rattle.locals.proofs.frame.Locals.has_used.Given as goal

abbrev pub invariant-loop-i : goal.invariant-loop-i
invariant-loop-i l = record {
  same : take l.i l.self.values ≡ take l.i l.other.values;
  within : l.i ≤ l.used;
}

abbrev pub decreases-loop-i : goal.decreases-loop-i
decreases-loop-i l = l.used - l.i
