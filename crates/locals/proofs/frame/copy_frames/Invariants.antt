use Rattle.std.proofs.Common.{◌-◌, ◌≡◌, ◌≤◌, length, take}
use Rattle.locals.specs.Uses.{AreBlank}
use Rattle.locals.proofs.frame.copy_frames.Given as goal

abbrev pub invariant-loop-i : goal.invariant-loop-i
invariant-loop-i l = record {
  copied : take l.i l.to ≡ take l.i l.from;
  blank : AreBlank l.used l.to;
  within : l.i ≤ length l.from;
}

abbrev pub decreases-loop-i : goal.decreases-loop-i
decreases-loop-i l = length l.from - l.i
