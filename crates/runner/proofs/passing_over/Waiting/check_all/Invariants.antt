use Rattle.std.proofs.Common.{◌≡◌, ◌<◌, ◌≤◌, ◌-◌, ℕ}
use Rattle.words.specs.Limits.{run_buckets}
use Rattle.piece_machine.specs.PieceViews.{parts}
use Rattle.runner.specs.Waits.{IsHeldIf, IsSound}
use Rattle.runner.proofs.passing_over.Waiting.check_all.Given as goal

abbrev pub invariant-loop-at : goal.invariant-loop-at
invariant-loop-at l = record {
  sound : IsSound l.self;
  wants : l.self.wants ≡ l.fn.self.wants;
  held : (b : ℕ) → b < l.at → b < run_buckets → IsHeldIf (parts l.machine) l.self.shut b;
  few : l.at ≤ 64;
}

abbrev pub decreases-loop-at : goal.decreases-loop-at
decreases-loop-at l = 64 - l.at
