use Rattle.std.proofs.Common.{◌≡◌, Contains, ℕ}
use Rattle.piece_machine.specs.PieceViews.{pieces}
use Rattle.proof_image_liveness.specs.Sleeping.{SleepsForGood}
use Rattle.image_search.specs.Kept.{IsSound}
use Rattle.image_search.specs.Living.{IsStill}
use Rattle.image_search.proofs.sleeping.add_sleepers.Given as goal

abbrev pub invariant-loop-before : goal.invariant-loop-before
invariant-loop-before l = record {
  sound : IsSound l.kept;
  still : IsStill l.fn.kept l.kept;
  sleep : l.last.view.program ≡ l.image → (t : ℕ) → Contains l.threads.items t
      → SleepsForGood l.image (pieces l.last) t;
}
