-- The recovery of a monitor is the same at each place.
use Rattle.std.proofs.Common.{◌≡◌, ℕ, Option, Some, None, refl}
use Rattle.lowering.specs.Locks.{recovery}
use Rattle.lowering.specs.Marks.{rebase}

pub moved_recovery : (start : ℕ) (place : Option ℕ) → rebase start (recovery place) ≡ recovery place
moved_recovery start (Some place) = refl
moved_recovery start None = refl
